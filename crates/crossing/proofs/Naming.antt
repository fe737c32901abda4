-- A name written over the start of a list, and the refusal that an answer gives: a law for each way.
-- Assumes nothing.
use Prim.Native.Nat.{ℕ, ◌+◌, ◌≤◌, ◌<◌}
use mathlib.Core.Path.{◌≡◌, refl, ap, sym, ◌∙◌}
use mathlib.Core.Bool.{Bool, true, false, false≢true}
use mathlib.Core.List.{List, [], ◌∷◌, ◌++◌}
use native.Mathlib.Omega.{arith}
use lib.Dec.{eqb}
use lib.IntN.{ℤ, pos, negsuc, neg_ℤ, nat_abs}
use lib.Signed.{mag, le_z}
use lib.ListN.{length, length-set, get_or, take, drop, set}
use Rattle.std.proofs.Common.{add-one, rules}
use Rattle.std.proofs.Math.Seq.{paste-suc, take-length}
use native.Mathlib.Nat.{zero-add}
use mir.Syntax.{w64}
use mir.Val.{to_z, of_z}
use mir.Facts.{to_z_pos}
use borrow.Author.Tests.{le-leb, lt-leb}
use Rattle.refusal.specs.Answer.{Answer, given, refused}
use Rattle.refusal.specs.Laws.Answers.{fails, holds}
use Rattle.refusal.specs.declared.Refusal.{Refusal}
use Rattle.refusal.specs.Refusals.{Row, refusals, pick, of_number, in_table, letters, letters_of, name_of_number, number_of}
use Rattle.refusal.specs.Laws.Searched.{is_named, no_refusal}
use Rattle.steps.specs.Build.{over}
use Rattle.crossing.specs.Answers.{one_number_of}
use Rattle.crossing.specs.Names.{name_of, fitting, text_after, Spelled}
use Rattle.crossing.specs.Laws.Calls.{told_refused}

-- ---- letters written one after another
pub record Writing (name old new : List ℕ) (k : ℕ) : Type 0 where
  pub within : k ≤ length name
  pub long : length new ≡ length old
  pub same : new ≡ take k name ++ drop k old

module _ {name old : List ℕ} where
  pub writing_start : Writing name old old 0
  writing_start = record { within = omega arith; long = refl; same = refl }

  pub writing_more : {new : List ℕ} {k : ℕ} {x : ℕ} → length name ≤ length old → Writing name old new k → k < length name → x ≡ get_or name k 0 → Writing name old (set new k x) (k + 1)
  writing_more {new} {k} {x} room w h e =
      record {
        within = omega (arith, h);
        long = length-set new k x ∙ w.long;
        same =
            ap (λ (l : List ℕ). set l k x) w.same
            ∙ ap (λ (y : ℕ). set (take k name ++ drop k old) k y) e
            ∙ rw (add-one k) (simp (zero-add) at (paste-suc old 0 name k 0 (omega (arith, room)) h));
      }

  pub writing_end : {new : List ℕ} {k : ℕ} → Writing name old new k → length name ≤ k → new ≡ over name old
  unfolding over
  writing_end {new} {k} w h =
      let e : k ≡ length name = omega (arith, w.within, h) in
      w.same ∙ rw e (rw (take-length name) refl)

  pub writing_long : {new : List ℕ} {k : ℕ} → Writing name old new k → length new ≡ length old
  writing_long w = w.long

pub ruleset writing = (writing_start, writing_long, writing_more, writing_end, rules)

-- ---- a name that does not fit, and one that was written
pub spelled_short : (name text : List ℕ) {r : ℤ} → mag r < 9223372036854775808 → length text < length name → r ≡ neg_ℤ (pos 14) → Spelled name (to_z w64 (of_z w64 r)) text text
unfolding fitting text_after
spelled_short name text s h e =
    let o : refused 14 ≡ fitting name text = fails 14 _ _ (lt-leb (length name) (length text) h) in
    record {
      answer = told_refused length s _ 14 e o;
      text_after_lem = ap (λ (a : Answer (List ℕ)). text_after a text) o;
    }

pub spelled_put : (name text text' : List ℕ) → length name ≤ 16 → length name ≤ length text → text' ≡ over name text → Spelled name (to_z w64 (length name)) text text'
unfolding fitting text_after
spelled_put name text text' few h e =
    let o : given name ≡ fitting name text = holds 14 _ _ _ (le-leb (length name) (length text) h) refl in
    record {
      answer = to_z_pos w64 (omega (arith, few)) ∙ ap (one_number_of length) o;
      text_after_lem = e ∙ ap (λ (a : Answer (List ℕ)). text_after a text) o;
    }

-- ---- the name that a reading of the number gives
by_test : {A : Type 0} (f none rest : A) (listed : Bool) (t : Bool) → (listed ≡ false → rest ≡ none) → pick t true listed ≡ false → pick t f rest ≡ none
unfolding pick
by_test f none rest listed true h e = absurd (false≢true (sym e))
by_test f none rest listed false h e = h e

unlisted : {A : Type 0} (f : Row → A) (none : A) (n : ℕ) (rows : List Row) → of_number (λ r. true) false rows n ≡ false → of_number f none rows n ≡ none
unfolding of_number
unlisted f none n [] e = refl
unlisted f none n (r ∷ rows) e = by_test (f r) none (of_number f none rows n) (of_number (λ r. true) false rows n) (eqb r.number n) (λ h. unlisted f none n rows h) e

pub value_named : (answer : ℤ) → le_z (pos 0) answer ≡ true → [] ≡ name_of answer
unfolding name_of
value_named (pos n) h = refl
value_named (negsuc n) h = absurd (false≢true h)

below_named : (answer : ℤ) → le_z (pos 0) answer ≡ false → name_of_number (nat_abs answer) ≡ name_of answer
unfolding name_of
below_named (pos n) h = absurd (false≢true (sym h ∙ le-leb 0 n (omega arith)))
below_named (negsuc n) h = refl

module _ (answer : ℤ) (below : le_z (pos 0) answer ≡ false) {n : ℕ} (size : n ≡ nat_abs answer) where
  numbered : name_of_number n ≡ name_of answer
  numbered = ap name_of_number size ∙ below_named answer below

  pub refusal_named : (r : Refusal) {name : List ℕ} → number_of r ≡ n → name ≡ letters_of r → name ≡ name_of answer
  refusal_named r e h = h ∙ sym (is_named r) ∙ ap name_of_number e ∙ numbered

  pub number_unnamed : in_table n ≡ false → [] ≡ name_of answer
  unfolding name_of_number in_table
  number_unnamed h = sym (unlisted (λ r. letters r.name) [] n refusals h) ∙ numbered

  pub far_named : 255 < n → [] ≡ name_of answer
  far_named h = number_unnamed (no_refusal n (λ low high. omega (arith, h, high)))
