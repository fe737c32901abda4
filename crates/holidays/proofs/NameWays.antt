-- Laws of the usual names, compared at once.
-- Assumes nothing.
use Prim.Native.Nat.{ℕ, suc, ◌+◌, ◌-◌, ◌≤◌, ◌<◌}
use mathlib.Core.Path.{◌≡◌, refl, sym, ap, ◌∙◌, subst}
use mathlib.Core.Bool.{Bool, true, false, false≢true}
use mathlib.Core.List.{[], ◌∷◌, ◌++◌, append_assoc, append-nil}
use native.Mathlib.Omega.{arith}
use lib.ListN.{length, get_or}
use borrow.Author.Count.{below_more}
use borrow.Author.Rules.{rules}
use Rattle.std.specs.Prelude.{Some}
use Rattle.holidays.specs.declared.words.Piece.{Piece}
use Rattle.holidays.specs.Words.{Bytes, pick}
use Rattle.holidays.specs.Content.{turned}
use Rattle.holidays.specs.Inner.Along.{Before, ahead}
use Rattle.holidays.specs.Inner.Letters.{letter, pack}
use Rattle.holidays.specs.Inner.Others.{Spelt, Stands}
use Rattle.holidays.specs.Inner.Pieces.{Pieced, is_stop, by_stop, piece, mark_number, ReadsPiece}
use Rattle.holidays.proofs.UsualWays.{High, word_read}

-- ---- the comparison
pub record Standing (file : Bytes) (at : ℕ) (word : Bytes) (k : ℕ) : Type 0 where
  pub within : k ≤ length word
  pub bytes : (j : ℕ) → j < k → get_or file (at + j) 0 ≡ get_or word j 0

pub stands_not : (file : Bytes) (at : ℕ) (word : Bytes) → Stands file at word false
stands_not file at word = record { so = λ e. absurd (false≢true e) }

pub standing_none : (file : Bytes) (at : ℕ) (word : Bytes) → Standing file at word 0
standing_none file at word = record { within = omega arith; bytes = λ j h. let bad : ⊥ = omega arith in absurd bad }

pub standing_more : {file : Bytes} {at : ℕ} {word : Bytes} {k : ℕ} → Standing file at word k → k < length word → get_or file (at + k) 0 ≡ get_or word k 0 → Standing file at word (k + 1)
standing_more s h e = record { within = omega arith; bytes = below_more _ _ s.bytes e }

pub stands_so : {file : Bytes} {at : ℕ} {word : Bytes} {k : ℕ} → Standing file at word k → length word ≤ k → length word ≤ length file → at ≤ length file - length word → Stands file at word true
stands_so s h l w = record { so = λ q. record { within = omega arith; bytes = λ j i. s.bytes j (omega arith) } }

pub standing_within : (file word : Bytes) (at k : ℕ) → length word ≤ length file → at ≤ length file - length word → k < length word → at + k < length file
standing_within file word at k l w h = omega arith

pub ruleset stand_ways = (stands_not, standing_none, standing_more, stands_so, standing_within, rules)

-- ---- a name and its mark at once
module _ (file : Bytes) (at line : ℕ) (b : Before file at line) (word : Bytes) (high : High word) where
  whole_name : (number mark : ℕ) → ((s : Bytes) → piece false false 1 (word ++ s) ≡ record { number = number; mark = mark; quoted = false; rest = s }) → 0 < length word → Spelt file at word → ReadsPiece file at line false false (record { number = number; mark = Some mark; quoted = false; place = record { at = at + length word; line = line } })
  unfolding mark_number
  whole_name number mark says some s =
      let r = word_read file at line b word high s in
      let p : piece false false 1 (ahead file at line) ≡ record { number = number; mark = mark; quoted = false; rest = ahead file (at + length word) line } = ap (piece false false 1) r.bytes ∙ says (ahead file (at + length word) line) in
      record {
        number = sym (ap (λ (q : Pieced). q.number) p);
        mark = sym (ap (λ (q : Pieced). q.mark) p);
        quotes = sym (ap (λ (q : Pieced). q.quoted) p);
        rest = sym (ap (λ (q : Pieced). q.rest) p);
        inside = r.inside;
        further = λ m z. omega arith;
      }

module _ {file : Bytes} {at line : ℕ} {t : Bool} {r : Piece} (b : Before file at line) where
  pub name_dtstart : Stands file at (68 ∷ 84 ∷ 83 ∷ 84 ∷ 65 ∷ 82 ∷ 84 ∷ 59 ∷ []) t → t ≡ true → r ≡ record { number = 39346374228; mark = Some 59; quoted = false; place = record { at = at + 8; line = line } } → ReadsPiece file at line false false r
  unfolding piece by_stop is_stop turned pack letter pick
  name_dtstart s e q = subst (λ (x : Piece). ReadsPiece file at line false false x) (sym q) (whole_name file at line b (68 ∷ 84 ∷ 83 ∷ 84 ∷ 65 ∷ 82 ∷ 84 ∷ 59 ∷ []) (omega arith, (omega arith, (omega arith, (omega arith, (omega arith, (omega arith, (omega arith, (omega arith, tt)))))))) 39346374228 59 (λ rest. refl) (omega arith) (s.so e))

  pub name_dtend : Stands file at (68 ∷ 84 ∷ 69 ∷ 78 ∷ 68 ∷ 59 ∷ []) t → t ≡ true → r ≡ record { number = 38409668; mark = Some 59; quoted = false; place = record { at = at + 6; line = line } } → ReadsPiece file at line false false r
  unfolding piece by_stop is_stop turned pack letter pick
  name_dtend s e q = subst (λ (x : Piece). ReadsPiece file at line false false x) (sym q) (whole_name file at line b (68 ∷ 84 ∷ 69 ∷ 78 ∷ 68 ∷ 59 ∷ []) (omega arith, (omega arith, (omega arith, (omega arith, (omega arith, (omega arith, tt)))))) 38409668 59 (λ rest. refl) (omega arith) (s.so e))

  pub name_begin : Stands file at (66 ∷ 69 ∷ 71 ∷ 73 ∷ 78 ∷ 58 ∷ []) t → t ≡ true → r ≡ record { number = 35822894; mark = Some 58; quoted = false; place = record { at = at + 6; line = line } } → ReadsPiece file at line false false r
  unfolding piece by_stop is_stop turned pack letter pick
  name_begin s e q = subst (λ (x : Piece). ReadsPiece file at line false false x) (sym q) (whole_name file at line b (66 ∷ 69 ∷ 71 ∷ 73 ∷ 78 ∷ 58 ∷ []) (omega arith, (omega arith, (omega arith, (omega arith, (omega arith, (omega arith, tt)))))) 35822894 58 (λ rest. refl) (omega arith) (s.so e))

  pub name_end : Stands file at (69 ∷ 78 ∷ 68 ∷ 58 ∷ []) t → t ≡ true → r ≡ record { number = 38340; mark = Some 58; quoted = false; place = record { at = at + 4; line = line } } → ReadsPiece file at line false false r
  unfolding piece by_stop is_stop turned pack letter pick
  name_end s e q = subst (λ (x : Piece). ReadsPiece file at line false false x) (sym q) (whole_name file at line b (69 ∷ 78 ∷ 68 ∷ 58 ∷ []) (omega arith, (omega arith, (omega arith, (omega arith, tt)))) 38340 58 (λ rest. refl) (omega arith) (s.so e))

  pub name_dtstamp : Stands file at (68 ∷ 84 ∷ 83 ∷ 84 ∷ 65 ∷ 77 ∷ 80 ∷ 58 ∷ []) t → t ≡ true → r ≡ record { number = 39346374064; mark = Some 58; quoted = false; place = record { at = at + 8; line = line } } → ReadsPiece file at line false false r
  unfolding piece by_stop is_stop turned pack letter pick
  name_dtstamp s e q = subst (λ (x : Piece). ReadsPiece file at line false false x) (sym q) (whole_name file at line b (68 ∷ 84 ∷ 83 ∷ 84 ∷ 65 ∷ 77 ∷ 80 ∷ 58 ∷ []) (omega arith, (omega arith, (omega arith, (omega arith, (omega arith, (omega arith, (omega arith, (omega arith, tt)))))))) 39346374064 58 (λ rest. refl) (omega arith) (s.so e))

pub ruleset names = (name_dtstart, name_dtend, name_begin, name_end, name_dtstamp, rules)
