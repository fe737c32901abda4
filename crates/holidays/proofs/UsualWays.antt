-- Laws of the usual parameter, VALUE=DATE, read at once.
-- Assumes nothing.
use Prim.Native.Nat.{ℕ, suc, ◌+◌, ◌≤◌, ◌<◌}
use mathlib.Core.Path.{◌≡◌, sym, ap, ◌∙◌, subst}
use mathlib.Core.Bool.{Bool, true, false}
use mathlib.Core.List.{[], ◌∷◌, ◌++◌, append_assoc, append-nil}
use native.Mathlib.Omega.{arith}
use lib.ListN.{length, get_or}
use borrow.Author.Rules.{rules}
use Rattle.holidays.specs.Words.{Bytes, pick, upper, uppers, equal, ascii, spells}
use Rattle.holidays.specs.Content.{turned, by_mark, content_from, kind_of, by_equals, parameter_of, one_further, by_parameter, kind_in}
use Rattle.holidays.specs.Inner.Along.{Before, ahead, Inside, IsStepped}
use Rattle.std.specs.Prelude.{Some}
use Rattle.holidays.specs.declared.parameters.Kind.TheVariants as kind-is
use Rattle.holidays.specs.Inner.Digits.{kind_is}
use Rattle.holidays.specs.Inner.Others.{Spelt, Stands}
use Rattle.holidays.specs.Inner.Parameters.{said_at, LiesInside, ReadsKinds}
use Rattle.holidays.proofs.LineWays.{next_start, next_byte}
use Rattle.holidays.proofs.WordWays.{inside_here, inside_on}

-- ---- bytes of a line, one after the other, without a fold
pub record Read (file : Bytes) (at line k : ℕ) (done : Bytes) : Type 0 where
  pub bytes : ahead file at line ≡ done ++ ahead file (at + k) line
  pub inside : Inside file at line (at + k) line

pub read_start : {file : Bytes} {at line : ℕ} → Before file at line → Read file at line 0 []
read_start {file} {at} {line} b =
    let e : at ≡ at + 0 = omega arith in
    record { bytes = ap (λ (i : ℕ). ahead file i line) e; inside = subst (λ (i : ℕ). Inside file at line i line) e (inside_here b) }

pub read_more : (file : Bytes) (at line k c : ℕ) {done : Bytes} → Read file at line k done → at + k < length file → get_or file (at + k) 0 ≡ c → 13 < c → Read file at line (k + 1) (done ++ (c ∷ []))
unfolding IsStepped
read_more file at line k c {done} r h e l =
    let f : at + k + 1 ≡ at + (k + 1) = omega arith in
    let s = next_byte (next_start r.inside.before) h (feed e l) (return e l) in
    let i : Inside file (at + k) line (at + (k + 1)) line = subst (λ (j : ℕ). Inside file (at + k) line j line) f s.so.inside in
    let b : ahead file (at + k) line ≡ c ∷ ahead file (at + (k + 1)) line = s.so.bytes ∙ ap (λ (x : ℕ). x ∷ ahead file (at + k + 1) line) e ∙ ap (λ (j : ℕ). c ∷ ahead file j line) f in
    record {
      bytes = r.bytes ∙ ap (λ (t : Bytes). done ++ t) b ∙ sym (append_assoc done (c ∷ []) (ahead file (at + (k + 1)) line));
      inside = inside_on r.inside i;
    }
  where
    feed : get_or file (at + k) 0 ≡ c → 13 < c → get_or file (at + k) 0 ≡ 10 → ⊥
    feed p q x = omega arith

    return : get_or file (at + k) 0 ≡ c → 13 < c → get_or file (at + k) 0 ≡ 13 → ⊥
    return p q x = omega arith

-- ---- a word along the line
abbrev pub High : Bytes → Type 0
High [] = Unit {0}
High (c ∷ s) = (13 < c) × High s

read_on : (file : Bytes) (at line : ℕ) (word : Bytes) (k : ℕ) (done : Bytes) → High word → Read file at line k done → at + k + length word ≤ length file → ((j : ℕ) → j < length word → get_or file (at + k + j) 0 ≡ get_or word j 0) → Read file at line (k + length word) (done ++ word)
read_on file at line [] k done g r w h =
    let e : k ≡ k + 0 = omega arith in
    subst (λ (i : ℕ). Read file at line i (done ++ [])) e (subst (λ (s : Bytes). Read file at line k s) (sym (append-nil done)) r)
read_on file at line (c ∷ word) k done g r w h =
    let e : k + 1 + length word ≡ k + suc (length word) = omega arith in
    let z : at + k + 0 ≡ at + k = omega arith in
    let one = read_more file at line k c r (omega arith) (ap (λ (i : ℕ). get_or file i 0) (sym z) ∙ h 0 (omega arith)) g.0 in
    let rest = read_on file at line word (k + 1) (done ++ (c ∷ [])) g.1 one (omega arith) (λ j i. ap (λ (m : ℕ). get_or file m 0) (shift j) ∙ h (suc j) (omega arith)) in
    subst (λ (i : ℕ). Read file at line i (done ++ (c ∷ word))) e (subst (λ (s : Bytes). Read file at line (k + 1 + length word) s) (append_assoc done (c ∷ []) word) rest)
  where
    shift : (j : ℕ) → at + (k + 1) + j ≡ at + k + suc j
    shift j = omega arith

module _ (file : Bytes) (at line : ℕ) (b : Before file at line) (word : Bytes) (high : High word) where
  pub word_read : Spelt file at word → Read file at line (length word) word
  word_read s =
      let e : 0 + length word ≡ length word = omega arith in
      subst (λ (i : ℕ). Read file at line i word) e (read_on file at line word 0 [] high (read_start b) (omega (arith, s.within)) (λ j i. ap (λ (m : ℕ). get_or file m 0) (plus j) ∙ s.bytes j i))
    where
      plus : (j : ℕ) → at + 0 + j ≡ at + j
      plus j = omega arith

pub usual_kinds : {file : Bytes} {at line : ℕ} {r : Bool} → Before file at line → Stands file at (86 ∷ 65 ∷ 76 ∷ 85 ∷ 69 ∷ 61 ∷ 68 ∷ 65 ∷ 84 ∷ 69 ∷ 58 ∷ []) r → r ≡ true → ReadsKinds file at line (record { kind = kind-is.Date; place = Some (record { at = at + 11; line = line }) })
unfolding content_from by_mark turned kind_in by_parameter parameter_of by_equals one_further kind_of spells uppers upper equal ascii pick kind_is said_at LiesInside
usual_kinds {file} {at} {line} b u t =
    let q = word_read file at line b (86 ∷ 65 ∷ 76 ∷ 85 ∷ 69 ∷ 61 ∷ 68 ∷ 65 ∷ 84 ∷ 69 ∷ 58 ∷ []) (omega arith, (omega arith, (omega arith, (omega arith, (omega arith, (omega arith, (omega arith, (omega arith, (omega arith, (omega arith, (omega arith, tt))))))))))) (u.so t) in
    record {
      kind = sym (ap (λ (s : Bytes). kind_in ((content_from false s).name ∷ (content_from false s).parameters)) q.bytes);
      said = ap (λ (s : Bytes). (content_from false s).said) q.bytes;
      inside = q.inside;
    }

pub usual_fits : {file word : Bytes} {at : ℕ} {r : Bool} → Stands file at word r → r ≡ true → at + length word ≤ length file
usual_fits u t = (u.so t).within

pub ruleset usual_ways = (usual_kinds, rules)
