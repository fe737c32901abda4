-- The Rust's step back to the previous twentieth, which goes as many months back as the next IMM month lies ahead; and what a build with it has to do
-- with `build_of`: the same but under CDS and CDS2015 where the two twentieths differ.
-- Assumes nothing.
use Prim.Native.Nat.{ℕ, zero, suc, ◌+◌, ◌-◌, ◌/◌, ◌%◌, ◌≤◌, ◌<◌, min}
use Rattle.std.specs.Prelude.{◌≡◌, Bool, ◌&&◌, ◌||◌, List, eqb, leb, ltb, get_or}
use Rattle.std.proofs.Math.Path.{refl, ap}
use Rattle.std.proofs.Common.{sym, ◌∙◌, arith}
use Rattle.std.proofs.Math.Bool.{true, false}
use Rattle.std.proofs.lemmas.Bool.{false≢true}
use borrow.Author.Tests.{ne_eqb, leb-true, le-ltb}
use Rattle.refusal.specs.Answer.{Answer, given, need, then, ROOM}
use Rattle.refusal.specs.Laws.Answers.{need_given, one_given, then_stepped, below, all_below}
use Rattle.date.specs.Civil.{leap, row_of, month_length, gone, sum_to, guess, years_gone, month_in, day_in, place_of, fields_at, fields_of, day_number}
use Rattle.date.specs.Date.{in_book, month_index, make_of, in_month, step, shift_months}
use Rattle.date.specs.Laws.Months.{length_ge}
use Rattle.date.specs.Laws.Round.{Valid}
use Rattle.imm.specs.Laws.Order.{later_month}
use Rattle.calendar.specs.Adjust.{adjusted}
use Rattle.steps.specs.declared.Rule.{Rule}
use Rattle.steps.specs.declared.Rule.TheVariants.{Zero, Backward, Forward, Twentieth, TwentiethIMM, ThirdWednesday, ThirdWednesdayInclusive, OldCDS, CDS, CDS2015}
use Rattle.steps.specs.declared.Request.{Request}
use Rattle.steps.specs.Rules.{rule_number, one_of, rule_in_force, rule_under, is_none, is_zero, is_backward, in_imm_months, on_twentieths, is_credit, is_old_cds}
use Rattle.steps.specs.Table.{first_row, input_rows, by_range, by_imm, wrong_rule, is_given}
use Rattle.steps.specs.Twentieths.{twentieth_of, moved_if, skip_of, to_imm_month, next_twentieth, previous_twentieth}
use Rattle.steps.specs.Generate.{Lists, Made, nothing, onto, has_room_in, put, put_earlier, credit_opening, opening_by, opening, far_enough, is_near, coming_twentieth, put_coming, put_twentieth, second, opened, zero_dates, backward, forward_from, forward, generate_by, generate}
use Rattle.steps.specs.Finish.{finish}
use Rattle.steps.specs.Build.{Schedule, steps_of, admitted, build_of}
use Rattle.outcomes.specs.Laws.Days.{days_apart}
use Rattle.outcomes.specs.Laws.Searched.{adjusted_near}
use Rattle.outcomes.specs.Grid.{Gives, weaker, IsTwentieth, Last, twentieth_number, twentieth_month, twentieth_le, in_month_lem, shift, reached}
use Rattle.outcomes.specs.Laws.FirstDate.{Alike, Opens, second_alike}

-- ---- the Rust's step, and a build with it
unfoldable pub rust_previous : Rule → ℕ → Answer ℕ
rust_previous rule day =
    then (twentieth_of day) (λ t. then (moved_if (ltb day t) true 1 t) (λ r. moved_if (in_imm_months rule) true (skip_of false (fields_of r).month) r))

unfoldable pub rust_opening : Bool → Request → List ℕ → ℕ → Answer Lists
rust_opening true q closed room = then (rust_previous q.rule q.effective.day) (credit_opening q closed room)
rust_opening false q closed room = put room q.effective.day 1 nothing

unfoldable pub rust_forward : Request → List ℕ → ℕ → Answer Made
rust_forward q closed room = then (then (rust_opening (is_credit q.rule) q closed room) (second q.first.day q closed room)) (forward_from q closed room)

unfoldable pub rust_generate_by : Bool → Bool → Request → List ℕ → ℕ → Answer Made
rust_generate_by true back q closed room = zero_dates q room
rust_generate_by false true q closed room = backward q closed room
rust_generate_by false false q closed room = rust_forward q closed room

unfoldable pub rust_generate : Request → List ℕ → ℕ → Answer Made
rust_generate q closed room = rust_generate_by (is_zero (rule_in_force q)) (is_backward (rule_in_force q)) q closed room

unfoldable pub rust_steps : Request → List ℕ → ℕ → Answer Schedule
rust_steps q closed room =
    then (rust_generate q closed (min room 4096)) (λ made.
    then (finish q closed made.seed made.dates made.flags) (λ done.
    given (record { dates = done.dates; flags = done.flags; tries = made.tries })))

unfoldable pub rust_build : Request → List ℕ → ℕ → ℕ → Answer Schedule
rust_build q closed dates flags = admitted (first_row (input_rows q closed dates flags)) (rust_steps q closed) dates

-- 2025-02-20 for 2025-04-25, where the previous twentieth is 2025-03-20
rust_sum : (rust_previous CDS (day_number 2025 4 25) ≡ given (day_number 2025 2 20)) × (previous_twentieth CDS (day_number 2025 4 25) ≡ given (day_number 2025 3 20))
unfolding rust_previous previous_twentieth to_imm_month skip_of moved_if rule_number one_of in_imm_months twentieth_of make_of shift_months in_month month_index step need then leap row_of month_length gone sum_to guess years_gone month_in day_in place_of fields_at day_number
rust_sum = (refl, refl)

-- ---- where both generate the same, the builds are the same
module _ (q : Request) (closed : List ℕ) (same : (room : ℕ) → rust_generate q closed room ≡ generate q closed room) where
  same_steps : (room : ℕ) → rust_steps q closed room ≡ steps_of q closed room
  unfolding rust_steps steps_of
  same_steps room = rw (same (min room 4096)) refl

  same_build : (dates flags : ℕ) → rust_build q closed dates flags ≡ build_of q closed dates flags
  unfolding rust_build build_of
  same_build dates flags = λ i. admitted (first_row (input_rows q closed dates flags)) (λ room. same_steps room i) dates

module _ (q : Request) (closed : List ℕ) where
  -- the opening is asked for only where the rule in force is neither Zero nor Backward
  same_opening : (room : ℕ) → (is_zero (rule_in_force q) ≡ false → rust_opening (is_credit q.rule) q closed room ≡ opening_by (is_credit q.rule) q closed room) → rust_generate q closed room ≡ generate q closed room
  unfolding rust_generate rust_generate_by rust_forward generate generate_by forward opened opening
  same_opening room h = by (is_zero (rule_in_force q)) (is_backward (rule_in_force q)) refl
    where
      by : (z b : Bool) → is_zero (rule_in_force q) ≡ z → rust_generate_by z b q closed room ≡ generate_by z b q closed room
      by true b e = refl
      by false true e = refl
      by false false e = ap (λ (x : Answer Lists). then (then x (second q.first.day q closed room)) (forward_from q closed room)) (h e)

  -- ---- 1: where the two previous twentieths agree, the build is the same, refusals included
  pub same_twentieth : rust_previous q.rule q.effective.day ≡ previous_twentieth q.rule q.effective.day → (dates flags : ℕ) → rust_build q closed dates flags ≡ build_of q closed dates flags
  unfolding rust_opening opening_by
  same_twentieth h = same_build q closed (λ room. same_opening room (λ e. by room (is_credit q.rule)))
    where
      by : (room : ℕ) (c : Bool) → rust_opening c q closed room ≡ opening_by c q closed room
      by room true = ap (λ (x : Answer ℕ). then x (credit_opening q closed room)) h
      by room false = refl

  -- ---- 2: and so it is where the rule in force is not CDS or CDS2015
  pub other_rule : is_credit (rule_in_force q) ≡ false → (dates flags : ℕ) → rust_build q closed dates flags ≡ build_of q closed dates flags
  unfolding rust_opening opening_by rule_in_force rule_under is_zero one_of rule_number
  other_rule h = same_build q closed (λ room. same_opening room (λ e. by room (is_none q.tenor.length) h e))
    where
      go : (room : ℕ) (c : Bool) → c ≡ false → rust_opening c q closed room ≡ opening_by c q closed room
      go room true e = absurd (false≢true (sym e))
      go room false e = refl

      by : (room : ℕ) (n : Bool) → is_credit (rule_under n q.rule) ≡ false → is_zero (rule_under n q.rule) ≡ false → rust_opening (is_credit q.rule) q closed room ≡ opening_by (is_credit q.rule) q closed room
      by room true e z = absurd (false≢true (sym z))
      by room false e z = go room (is_credit q.rule) e

-- ---- where the two differ, both lie 30 days or more before the date
abbrev pub Far : ℕ → ℕ → Type 0
Far d t = t + 30 ≤ d

thirty : (l : Bool) (k : ℕ) → k < 12 → (k ≡ 1 → ⊥) → 30 ≤ get_or (row_of l) k 0
unfolding all_below row_of
thirty l k h n = leb-true 30 _ (rw (ne_eqb k 1 n) at (by l))
  where
    by : (l : Bool) → (eqb k 1 || leb 30 (get_or (row_of l) k 0)) ≡ true
    by true = below 12 (λ j. eqb j 1 || leb 30 (get_or (row_of true) j 0)) refl k h
    by false = below 12 (λ j. eqb j 1 || leb 30 (get_or (row_of false) j 0)) refl k h

-- only from February's twentieth to March's are there fewer days
month_on : (s s' t t' : ℕ) → 12 ≤ s → s' ≡ s + 1 → (s % 12 ≡ 1 → ⊥) → IsTwentieth s t → IsTwentieth s' t' → Far t' t
unfolding month_length
month_on s s' t t' low e n w w' =
    let v : Valid (s / 12) (s % 12 + 1) 30 = record { year = omega arith; month = omega arith; twelve = omega arith; first = omega arith; last = let q : s % 12 + 1 - 1 ≡ s % 12 = omega arith in rw q (thirty (leap (s / 12)) (s % 12) (omega arith) n) } in
    let v' : Valid (s' / 12) (s' % 12 + 1) 1 = record { year = omega arith; month = omega arith; twelve = omega arith; first = omega arith; last = omega (arith, length_ge (s' / 12) (s' % 12 + 1) (omega arith)) } in
    let l = later_month (s / 12) (s % 12 + 1) 30 (s' / 12) (s' % 12 + 1) 1 v v' (omega arith) in
    omega (arith, l, twentieth_number w, twentieth_number w', days_apart (s / 12) (s % 12 + 1) 30 20, days_apart (s' / 12) (s' % 12 + 1) 1 20)

module _ (d t : ℕ) (l : Last d t) where
  back_far : (k : ℕ) → 1 ≤ k → k ≤ 2 → ((month_index t + 1) % 3 ≡ 0 → ⊥) → Gives (Far d) (shift_months t true k)
  unfolding step
  back_far k a b n =
      let p = in_month_lem (month_index t - 1) (omega (arith, l.low)) (omega (arith, l.high)) in
      let m = month_on (month_index t - 1) (month_index t) p.value t (omega (arith, l.low)) (omega (arith, l.low)) (λ e. n (omega (arith, l.low))) p.has l.own in
      weaker (shift true k (month_index t) t l.own (omega (arith, l.low)) (omega (arith, l.high))) (λ r v. omega (arith, l.upto, m, twentieth_le v p.has (omega arith)))

  both_far : (c : Bool) → (moved_if c true (skip_of false (fields_of t).month) t ≡ moved_if c true (skip_of true (fields_of t).month) t → ⊥) → Gives (Far d) (moved_if c true (skip_of true (fields_of t).month) t) × Gives (Far d) (moved_if c true (skip_of false (fields_of t).month) t)
  unfolding moved_if skip_of
  both_far false n = absurd (n refl)
  both_far true n =
      let e = twentieth_month l.own in
      let z : (fields_of t).month % 3 ≡ 0 → ⊥ = λ i. n (ap (λ (k : ℕ). shift_months t true k) (omega arith)) in
      let z' : (month_index t + 1) % 3 ≡ 0 → ⊥ = λ i. z (e ∙ i) in
      (back_far ((fields_of t).month % 3) (omega arith) (omega arith) z', back_far ((3 - (fields_of t).month % 3) % 3) (omega arith) (omega arith) z')

pub apart : (rule : Rule) (d : ℕ) → in_book d ≡ true → (rust_previous rule d ≡ previous_twentieth rule d → ⊥) → Gives (Far d) (previous_twentieth rule d) × Gives (Far d) (rust_previous rule d)
unfolding rust_previous previous_twentieth to_imm_month
apart rule d b n =
    let r = reached d b in
    let f : ℕ → Answer ℕ = λ t. moved_if (in_imm_months rule) true (skip_of true (fields_of t).month) t in
    let g : ℕ → Answer ℕ = λ t. moved_if (in_imm_months rule) true (skip_of false (fields_of t).month) t in
    let w = both_far d r.twentieth r.last (in_imm_months rule) (λ e. n (r.onward g ∙ e ∙ sym (r.onward f))) in
    (rw (r.onward f) w.0, rw (r.onward g) w.1)

-- ---- so no date is put before either
pub alone : (q : Request) (closed : List ℕ) (room day : ℕ) (l : Lists) → Far q.effective.day day → credit_opening q closed room day ≡ given l → l ≡ onto day 1 nothing
unfolding credit_opening put_earlier put then
alone q closed room day l far h =
    let s = then_stepped (adjusted q.mask closed q.convention day) _ l h in
    by (ltb q.effective.day s.value) (le-ltb q.effective.day s.value (omega (arith, adjusted_near q.mask closed day s.value q.convention s.from))) s.to
  where
    by : (c : Bool) → c ≡ false → then (put_earlier c room day) (put room day 1) ≡ given l → l ≡ onto day 1 nothing
    by true e i = absurd (false≢true (sym e))
    by false e i = one_given (given (onto day 1 nothing)) l (onto day 1 nothing) (need_given ROOM (has_room_in room nothing) (given (onto day 1 nothing)) l i).1 refl

-- ---- CDS and CDS2015 among the groups of rules
pub record Credit (rule : Rule) : Type 0 where
  pub twentieths : on_twentieths rule ≡ true
  pub not_old : is_old_cds rule ≡ false
  pub not_zero : is_zero rule ≡ false
  pub not_backward : is_backward rule ≡ false
  pub anchors : (n : ℕ) → wrong_rule rule n ≡ is_given n

and_true : (b : Bool) → (b && true) ≡ b
and_true true = refl
and_true false = refl

pub credit_is : (rule : Rule) → is_credit rule ≡ true → Credit rule
unfolding rule_number one_of is_credit on_twentieths is_old_cds is_zero is_backward by_range by_imm wrong_rule
credit_is Zero e = absurd (false≢true e)
credit_is Backward e = absurd (false≢true e)
credit_is Forward e = absurd (false≢true e)
credit_is Twentieth e = absurd (false≢true e)
credit_is TwentiethIMM e = absurd (false≢true e)
credit_is ThirdWednesday e = absurd (false≢true e)
credit_is ThirdWednesdayInclusive e = absurd (false≢true e)
credit_is OldCDS e = absurd (false≢true e)
credit_is CDS e = record { twentieths = refl; not_old = refl; not_zero = refl; not_backward = refl; anchors = λ n. and_true (is_given n) }
credit_is CDS2015 e = record { twentieths = refl; not_old = refl; not_zero = refl; not_backward = refl; anchors = λ n. and_true (is_given n) }

pub in_force : (n : Bool) (rule : Rule) → is_credit (rule_under n rule) ≡ true → rule_under n rule ≡ rule
unfolding rule_under is_credit one_of rule_number
in_force true rule e = absurd (false≢true e)
in_force false rule e = refl

-- ---- the second date lies after the effective date, and does not depend on the first
pub coming_is : (rule : Rule) (d n : ℕ) → is_old_cds rule ≡ false → next_twentieth rule d ≡ given n → coming_twentieth rule d ≡ given n
unfolding coming_twentieth is_near far_enough then
coming_is rule d n e h = rw (h, e) refl

module _ (q : Request) (closed : List ℕ) (room a b n : ℕ) (on : on_twentieths q.rule ≡ true) (next : coming_twentieth q.rule q.effective.day ≡ given n) (off : n ≡ q.effective.day → ⊥) where
  pub seconds : (first : ℕ) → first ≡ 0 → Alike (Opens a b) (second first q closed room (onto a 1 nothing)) (second first q closed room (onto b 1 nothing))
  unfolding second put_twentieth put_coming then
  seconds zero e = by (on_twentieths q.rule) on
    where
      put_in : (c : Bool) → c ≡ false → Alike (Opens a b) (put_coming c q room n (onto a 1 nothing)) (put_coming c q room n (onto b 1 nothing))
      put_in true i = absurd (false≢true (sym i))
      put_in false i = second_alike a b room n _

      by : (c : Bool) → c ≡ true → Alike (Opens a b) (put_twentieth c q room (onto a 1 nothing)) (put_twentieth c q room (onto b 1 nothing))
      by true i = rw next (put_in (eqb n q.effective.day) (ne_eqb n q.effective.day off))
      by false i = absurd (false≢true i)
  seconds (suc k) e = let bad : ⊥ = omega arith in absurd bad
