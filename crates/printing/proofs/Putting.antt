-- Texts put one behind the other are one text put.
-- Assumes nothing.
use Prim.Native.Nat.{ℕ, ◌+◌, ◌/◌, ◌%◌, ◌≤◌, ◌<◌}
use mathlib.Core.Path.{◌≡◌, refl, ap, sym, ◌∙◌}
use mathlib.Core.List.{List, [], ◌∷◌, ◌++◌, append_assoc, append-nil}
use native.Mathlib.Numerals.{add-one}
use native.Mathlib.Omega.{arith}
use lib.ListN.{length, take, drop, set, length-set, length-append, length-drop}
use lib.Seq.{take-suc-set, drop-set-lt, drop-drop, length-take-le}
use borrow.Author.Rules.{rules}
use borrow.Rule.Slice.PartMut.{put_mid, same_len_mid}
use Rattle.std.proofs.lemmas.Slice.{take-put_mid, drop-put_mid}
use borrow.Author.Tests.{eq-eqb, ne_eqb}
use Rattle.date.specs.declared.Fields.{Fields}
use Rattle.date.specs.Civil.{fields_of}
use Rattle.printing.specs.Text.{digit, two_digits, date_text, bracketed, first_line, later_line, SPACE, HYPHEN, LEFT, RIGHT, LINE}
use Rattle.printing.specs.Put.{Put, differs}
use Rattle.printing.specs.Laws.Lengths.{bracketed_length, first_length, later_length}

pub put_none : (at : ℕ) (out : List ℕ) → Put [] at out at out
put_none at out = record { ends = omega arith; before = sym (append-nil _); behind = refl; size = refl }

pub put_one : (b at : ℕ) (out : List ℕ) → at < length out → Put (b ∷ []) at out (at + 1) (set out at b)
put_one b at out h =
    record {
      ends = refl;
      before = rw (add-one) (take-suc-set out at b h);
      behind = drop-set-lt (at + 1) out at b (omega arith);
      size = length-set out at b;
    }

module _ {a b : List ℕ} {at middle end : ℕ} {old new newer : List ℕ} (p : Put a at old middle new) (q : Put b middle new end newer) where
  past : drop end new ≡ drop end old
  past =
      let e : end ≡ middle + length b = q.ends in
      rw e (sym (drop-drop (length b) middle new) ∙ ap (λ (l : List ℕ). drop (length b) l) p.behind ∙ drop-drop (length b) middle old)

  pub put_then : Put (a ++ b) at old end newer
  put_then =
      record {
        ends = omega (arith, length-append a b, p.ends, q.ends);
        before = q.before ∙ ap (λ (l : List ℕ). l ++ b) p.before ∙ append_assoc (take at old) a b;
        behind = q.behind ∙ past;
        size = q.size ∙ p.size;
      }

-- ---- a text copied into a part of the list, of as many places as it has bytes
pub put_part : (text part out : List ℕ) (at k : ℕ) → at + length text ≤ length out → k ≡ length text → part ≡ text → Put text at out (at + length text) (put_mid at k out part)
put_part text part out at k room few same =
    let size : length part ≡ length text = ap length same in
    record {
      ends = refl;
      before = take-put_mid at k out part (at + length text) (omega arith) (omega arith) ∙ ap (λ (l : List ℕ). take at out ++ l) same;
      behind = drop-put_mid at k out part (at + length text) (omega arith) (omega arith) (omega arith);
      size = same_len_mid at k out part (omega (arith, length-take-le k (drop at out) (omega (arith, length-drop at out))));
    }

-- ---- the texts of dates and lines, the last part first
pub two_put : (n : ℕ) {at m end : ℕ} {old mid new : List ℕ} → Put (digit (n % 10) ∷ []) m mid end new → Put (digit (n / 10 % 10) ∷ []) at old m mid → Put (two_digits n) at old end new
two_put n q p = put_then p q

pub date_put : (day : ℕ) (f : Fields) {at m₁ m₂ m₃ m₄ m₅ end : ℕ} {old n₁ n₂ n₃ n₄ n₅ new : List ℕ} → f ≡ fields_of day → Put (two_digits f.day) m₅ n₅ end new → Put (HYPHEN ∷ []) m₄ n₄ m₅ n₅ → Put (two_digits f.month) m₃ n₃ m₄ n₄ → Put (HYPHEN ∷ []) m₂ n₂ m₃ n₃ → Put (two_digits f.year) m₁ n₁ m₂ n₂ → Put (two_digits (f.year / 100)) at old m₁ n₁ → Put (date_text day) at old end new
unfolding date_text
date_put day f e p₆ p₅ p₄ p₃ p₂ p₁ =
    rw (sym e) (put_then (put_then (put_then (put_then (put_then p₁ p₂) p₃) p₄) p₅) p₆)

pub date_ends : (day : ℕ) {at end : ℕ} {old new : List ℕ} → Put (date_text day) at old end new → end ≡ at + 10
unfolding date_text
date_ends day p = p.ends

-- ---- brackets
module _ (paid unadjusted : ℕ) where
  pub bracketed_none : (at : ℕ) (out : List ℕ) → paid ≡ unadjusted → Put (bracketed paid unadjusted) at out at out
  unfolding bracketed
  bracketed_none at out e = rw (eq-eqb paid unadjusted e) (put_none at out)

  pub bracketed_size : (paid ≡ unadjusted → ⊥) → length (bracketed paid unadjusted) ≡ 13
  unfolding differs
  bracketed_size h = bracketed_length paid unadjusted ∙ rw (ne_eqb paid unadjusted h)

  pub bracketed_put : {at m₁ m₂ end : ℕ} {old n₁ n₂ new : List ℕ} → (paid ≡ unadjusted → ⊥) → Put (SPACE ∷ LEFT ∷ []) at old m₁ n₁ → Put (date_text unadjusted) m₁ n₁ m₂ n₂ → Put (RIGHT ∷ []) m₂ n₂ end new → Put (bracketed paid unadjusted) at old end new
  unfolding bracketed
  bracketed_put h p₁ p₂ p₃ = rw (ne_eqb paid unadjusted h) (put_then (put_then p₁ p₂) p₃)

  -- ---- lines
  pub first_size : length (first_line paid unadjusted) ≡ 11 + length (bracketed paid unadjusted)
  first_size = omega (arith, first_length paid unadjusted, bracketed_length paid unadjusted)

  pub first_put : {at m₁ m₂ end : ℕ} {old n₁ n₂ new : List ℕ} → Put (date_text paid) at old m₁ n₁ → Put (bracketed paid unadjusted) m₁ n₁ m₂ n₂ → Put (LINE ∷ []) m₂ n₂ end new → Put (first_line paid unadjusted) at old end new
  unfolding first_line
  first_put p₁ p₂ p₃ = put_then (put_then p₁ p₂) p₃

  module _ (letter : ℕ) where
    pub later_size : length (later_line paid letter unadjusted) ≡ 13 + length (bracketed paid unadjusted)
    later_size = omega (arith, later_length paid letter unadjusted, bracketed_length paid unadjusted)

    pub later_put : {at m₁ m₂ m₃ end : ℕ} {old n₁ n₂ n₃ new : List ℕ} → Put (date_text paid) at old m₁ n₁ → Put (SPACE ∷ letter ∷ []) m₁ n₁ m₂ n₂ → Put (bracketed paid unadjusted) m₂ n₂ m₃ n₃ → Put (LINE ∷ []) m₃ n₃ end new → Put (later_line paid letter unadjusted) at old end new
    unfolding later_line
    later_put p₁ p₂ p₃ p₄ = put_then (put_then (put_then p₁ p₂) p₃) p₄

pub ruleset chains = (two_put, date_put, rules)
