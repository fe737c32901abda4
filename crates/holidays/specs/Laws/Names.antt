-- Names that count, by their numbers; and how many bytes a name and a value take.
-- Assumes nothing.
use Rattle.std.specs.Prelude.{ℕ, suc, ◌+◌, ◌≤◌, ◌≡◌, refl, Bool, true, false, not, ◌&&◌, [], ◌∷◌, eqb, length}
use Rattle.std.proofs.Common.{sym, ap, ◌∙◌, arith, ne_eqb}
use Rattle.holidays.specs.Words.{Bytes, pick, ascii, upper, uppers, QUOTE, COLON, SEMICOLON}
use Rattle.holidays.specs.Content.{Value, value, turned, by_mark, content_from, Name, begin, end, dtstart, dtend, recurring, other, name_of}
use Rattle.holidays.specs.Nesting.{Parts, after_other, after}
use Rattle.holidays.specs.Laws.Letters.{same_number}
use Rattle.holidays.specs.Laws.Pieces.{number_spells}
use Rattle.holidays.specs.Inner.Letters.{letter, pack, packs}

unfoldable pub name_by : ℕ → Name
name_by n =
    pick (eqb n 35822894) begin
    (pick (eqb n 38340) end
    (pick (eqb n 39346374228) dtstart
    (pick (eqb n 38409668) dtend
    (pick (eqb n 53040517) recurring
    (pick (eqb n 52561541) recurring
    (pick (eqb n 1266812549) recurring
    (pick (eqb n 1260104852974) recurring
    other)))))))

pub name_is : (s : Bytes) → name_of s ≡ name_by (packs 1 s)
unfolding name_of name_by ascii uppers upper pick packs pack letter
name_is s =
    rw (
      number_spells s "BEGIN" 35822894 refl (λ z. omega (arith, z)) refl,
      number_spells s "END" 38340 refl (λ z. omega (arith, z)) refl,
      number_spells s "DTSTART" 39346374228 refl (λ z. omega (arith, z)) refl,
      number_spells s "DTEND" 38409668 refl (λ z. omega (arith, z)) refl,
      number_spells s "RRULE" 53040517 refl (λ z. omega (arith, z)) refl,
      number_spells s "RDATE" 52561541 refl (λ z. omega (arith, z)) refl,
      number_spells s "EXDATE" 1266812549 refl (λ z. omega (arith, z)) refl,
      number_spells s "DURATION" 1260104852974 refl (λ z. omega (arith, z)) refl,
    )

-- neither BEGIN nor END: the parts stay
pub stays_open : (n : ℕ) → (n ≡ 35822894 → ⊥) → (n ≡ 38340 → ⊥) → (v : Value) (ps : Parts) → after (name_by n) v ps ≡ after_other ps
unfolding name_by pick after
stays_open n p q v ps =
    rw (ne_eqb n 35822894 p, ne_eqb n 38340 q) (go (eqb n 39346374228) (eqb n 38409668) (eqb n 53040517) (eqb n 52561541) (eqb n 1266812549) (eqb n 1260104852974))
  where
    go : (a b c d e f : Bool) → after (pick a dtstart (pick b dtend (pick c recurring (pick d recurring (pick e recurring (pick f recurring other)))))) v ps ≡ after_other ps
    go true b c d e f = refl
    go false true c d e f = refl
    go false false true d e f = refl
    go false false false true e f = refl
    go false false false false true f = refl
    go false false false false false true = refl
    go false false false false false false = refl

-- ---- BEGIN has five letters
uppers_long : (s : Bytes) → length (uppers s) ≡ length s
unfolding uppers
uppers_long [] = refl
uppers_long (b ∷ s) = ap suc (uppers_long s)

begin_number : packs 1 (ascii "BEGIN") ≡ 35822894
unfolding ascii packs pack letter pick
begin_number = refl

begin_long : length (ascii "BEGIN") ≡ 5
unfolding ascii
begin_long = refl

pub begin_five : (s : Bytes) → packs 1 s ≡ 35822894 → length s ≡ 5
begin_five s e =
    let u = same_number 1 1 s (ascii "BEGIN") (omega arith) (omega arith) (e ∙ sym begin_number) (λ z. omega (arith, begin_number, z)) in
    sym (uppers_long s) ∙ ap length u.1 ∙ uppers_long (ascii "BEGIN") ∙ begin_long

-- ---- a name, its colon and the value are bytes of the line
pub content_long : (q : Bool) (s t : Bytes) → (content_from q s).said ≡ value t → length (content_from q s).name + 1 + length t ≤ length s
unfolding content_from by_mark
content_long q [] t e = let z : ◌≡◌ {A = ℕ} 0 1 = cc in let bad : ⊥ = omega arith in absurd bad
content_long q (b ∷ s) t e = go (not q && eqb b COLON) (not q && eqb b SEMICOLON) (content_long (turned (eqb b QUOTE) q) s t) e
  where
    go : (x y : Bool) → ((content_from (turned (eqb b QUOTE) q) s).said ≡ value t → length (content_from (turned (eqb b QUOTE) q) s).name + 1 + length t ≤ length s) → (by_mark x y b s (content_from (turned (eqb b QUOTE) q) s)).said ≡ value t → length (by_mark x y b s (content_from (turned (eqb b QUOTE) q) s)).name + 1 + length t ≤ suc (length s)
    go true y on f = let z : s ≡ t = cc in omega (arith, ap length z)
    go false true on f = omega (arith, on f)
    go false false on f = omega (arith, on f)
