-- The record of a build: what is answered of it, and what the lent list holds then.
-- Assumes nothing.
use Prim.Native.Nat.{ℕ, zero, suc, ◌≤◌, ◌<◌}
use mathlib.Core.Path.{◌≡◌, refl, ap, sym, ◌∙◌}
use mathlib.Core.Bool.{Bool, true, false, cond}
use lib.Signed.{mag}
use mir.Syntax.{w64}
use mir.Val.{to_z, of_z}
use mathlib.Core.List.{List}
use native.Mathlib.Omega.{arith}
use lib.Dec.{leb}
use lib.IntN.{ℤ, pos, neg_ℤ}
use lib.ListN.{length}
use borrow.Author.Tests.{eq-eqb, ne_eqb, le-leb, lt-leb}
use Rattle.refusal.specs.Answer.{Answer, given, refused, then}
use Rattle.refusal.specs.Laws.Answers.{fails, holds, then_given, then_refused}
use Rattle.steps.specs.declared.Request.{Request}
use Rattle.steps.specs.declared.Built.{Built}
use Rattle.steps.specs.Build.{refused_built, answered, over, dates_after, flags_after}
use Rattle.steps.specs.Entries.{Entries, entries_of, paid_of, moved_of, unadjusted_after, Written}
use Rattle.crossing.specs.Answers.{one_number_of}
use Rattle.crossing.specs.Laws.Calls.{handed}
use Rattle.recorded.specs.Builds.{outcome, how_many, record_of, record_numbers, recorded, count_in, Reported}

-- ---- the number that is answered
pub count_given : (b : Built) (r : ℤ) → b.number ≡ 0 → r ≡ pos b.count → r ≡ count_in b
unfolding count_in
count_given b r e h = h ∙ sym (ap (λ (t : Bool). cond t (pos b.count) (neg_ℤ (pos b.number))) (eq-eqb b.number 0 e))

pub count_refused : (b : Built) (r : ℤ) → (b.number ≡ 0 → ⊥) → r ≡ neg_ℤ (pos b.number) → r ≡ count_in b
unfolding count_in
count_refused b r e h = h ∙ sym (ap (λ (t : Bool). cond t (pos b.count) (neg_ℤ (pos b.number))) (ne_eqb b.number 0 e))

-- of a build it is the outcome's
pub count_answered : (q : Request) (o : Answer Entries) → count_in (answered q (moved_of o) (paid_of o)) ≡ one_number_of how_many o
unfolding count_in answered how_many paid_of moved_of then
count_answered q (given e) = refl
count_answered q (refused zero) = refl
count_answered q (refused (suc n)) = simp (ne_eqb (suc n) 0 (λ z. omega (arith, z)))

pub count_unasked : (n : ℕ) → count_in (refused_built n) ≡ one_number_of how_many (refused n)
unfolding count_in
count_unasked zero = refl
count_unasked (suc n) = simp (ne_eqb (suc n) 0 (λ z. omega (arith, z)))

-- ---- a way through a build: the record does not fit, the request was refused, or it was built
module _ (x : Answer Request) (closed dates flags unadjusted answer : List ℕ) {r : ℤ} (s : mag r < 9223372036854775808) where
  pub reported_short : length answer < 7 → r ≡ neg_ℤ (pos 14) → Reported x closed (to_z w64 (of_z w64 r)) dates flags unadjusted answer dates flags unadjusted answer
  unfolding outcome dates_after flags_after unadjusted_after paid_of then recorded
  reported_short h e =
      let t : leb 7 (length answer) ≡ false = lt-leb 7 (length answer) h in
      let o : refused 14 ≡ outcome x closed dates flags unadjusted answer = fails 14 _ _ t in
      record {
        count = handed r s (e ∙ ap (one_number_of how_many) o);
        dates_after_lem = ap (λ (y : Answer Entries). dates_after (paid_of y) dates) o;
        flags_after_lem = ap (λ (y : Answer Entries). flags_after (paid_of y) flags) o;
        unadjusted_after_lem = ap (λ (y : Answer Entries). unadjusted_after y unadjusted) o;
        answer_after = rw t refl;
      }

  module _ (h : 7 ≤ length answer) (b : Built) (answer' : List ℕ) (e : r ≡ count_in b) (a : answer' ≡ over (record_numbers b) answer) where
    fits : leb 7 (length answer) ≡ true
    fits = le-leb 7 (length answer) h

    pub reported_refused : (n : ℕ) → x ≡ refused n → b ≡ refused_built n → Reported x closed (to_z w64 (of_z w64 r)) dates flags unadjusted answer dates flags unadjusted answer'
    unfolding outcome dates_after flags_after unadjusted_after paid_of then recorded record_of
    reported_refused n p q =
        let o : refused n ≡ outcome x closed dates flags unadjusted answer = holds 14 _ _ _ fits (then_refused x n _ p) in
        record {
          count = handed r s (e ∙ ap count_in q ∙ count_unasked n ∙ ap (one_number_of how_many) o);
          dates_after_lem = ap (λ (y : Answer Entries). dates_after (paid_of y) dates) o;
          flags_after_lem = ap (λ (y : Answer Entries). flags_after (paid_of y) flags) o;
          unadjusted_after_lem = ap (λ (y : Answer Entries). unadjusted_after y unadjusted) o;
          answer_after = rw (fits, p) (a ∙ ap (λ (y : Built). over (record_numbers y) answer) q);
        }

    pub reported_built : (q : Request) (dates' flags' unadjusted' : List ℕ) → x ≡ given q → Written q (entries_of q closed (length dates) (length flags) (length unadjusted)) b dates flags unadjusted dates' flags' unadjusted' → Reported x closed (to_z w64 (of_z w64 r)) dates flags unadjusted answer dates' flags' unadjusted' answer'
    unfolding outcome recorded record_of
    reported_built q dates' flags' unadjusted' p w =
        let o : entries_of q closed (length dates) (length flags) (length unadjusted) ≡ outcome x closed dates flags unadjusted answer = holds 14 _ _ _ fits (then_given x q _ _ p refl) in
        record {
          count = handed r s (e ∙ ap count_in w.answer ∙ count_answered q _ ∙ ap (one_number_of how_many) o);
          dates_after_lem = w.dates_after_lem ∙ ap (λ (y : Answer Entries). dates_after (paid_of y) dates) o;
          flags_after_lem = w.flags_after_lem ∙ ap (λ (y : Answer Entries). flags_after (paid_of y) flags) o;
          unadjusted_after_lem = w.unadjusted_after_lem ∙ ap (λ (y : Answer Entries). unadjusted_after y unadjusted) o;
          answer_after = a ∙ ap (λ (y : Built). over (record_numbers y) answer) (w.answer ∙ ap (λ (y : Answer Entries). answered q (moved_of y) (paid_of y)) o) ∙ rw (fits, p) refl;
        }
