-- One step of counting, and of looking for a day, in the days that are not weekly closed.
-- Assumes nothing.
use Prim.Native.Nat.{ℕ, ◌+◌, ◌-◌, ◌*◌, ◌/◌, ◌%◌, ◌^◌, ◌≤◌, ◌<◌}
use mathlib.Core.Path.{◌≡◌, sym, ap, ◌∙◌}
use mathlib.Core.Bool.{Bool, true, false, not}
use mathlib.Core.List.{List}
use native.Mathlib.Nat.{mul-le-mul, div-le_self, div-add-mod', mod-lt}
use native.Mathlib.Omega.{arith}
use lib.Dec.{eqb}
use mir.Syntax.{w8, w32}
use mir.Val.{Fits}
use borrow.Author.Rules.{rules}
use borrow.Author.Tests.{not-true}
use Rattle.refusal.specs.Laws.Answers.{both}
use Rattle.date.specs.Civil.{pick_n, weekday_of}
use Rattle.calendar.specs.Open.{weekly_closed, calendar_ok}
use Rattle.opendays.specs.Count.{tally, weekly_open}
use Rattle.opendays.specs.Inner.Steps.{Found}
use Rattle.opendays.specs.Laws.Tally.{tally_add, tally_to, tally_last, tally_few, tally_more, one_counted, none_counted}
use Rattle.opendays.specs.Laws.Weeks.{some_weekday, any_week, whole_weeks, weeks_and_rest}

-- ---- what a test of the mask says
pub shut_day : (mask day : ℕ) {w : Bool} → w ≡ weekly_closed mask day → w ≡ true → weekly_open mask day ≡ false
unfolding weekly_open
shut_day mask day p e = ap not (sym p ∙ e)

pub open_day : (mask day : ℕ) {w : Bool} → w ≡ weekly_closed mask day → w ≡ false → weekly_open mask day ≡ true
unfolding weekly_open
open_day mask day p e = ap not (sym p ∙ e)

pub weekday_some : (day w : ℕ) → w ≡ weekday_of day → 1 ≤ w
unfolding weekday_of
weekday_some day w e = omega arith

pub weekday_small : (day w : ℕ) → w ≡ weekday_of day → w - 1 < 7
unfolding weekday_of
weekday_small day w e = omega arith

pub weekday_bit : (mask day w : ℕ) (t : Bool) → w ≡ weekday_of day → t ≡ eqb (mask / 2 ^ (w - 1) % 2) 1 → t ≡ weekly_closed mask day
unfolding weekday_of weekly_closed
weekday_bit mask day w t e h =
    let k : w - 1 ≡ (day + 6) % 7 = omega arith in
    h ∙ ap (λ (j : ℕ). eqb (mask / 2 ^ j % 2) 1) k

pub ruleset masking = (weekday_some, weekday_small, weekday_bit, rules)

-- ---- a few days, one after another
pub record Few (mask from n count i : ℕ) : Type 0 where
  pub within : i ≤ n
  pub small : count ≤ i
  pub counted : count ≡ tally (weekly_open mask) from i

pub few_start : {mask from n : ℕ} → Few mask from n 0 0
few_start {mask} {from} {n} = record { within = omega arith; small = omega arith; counted = sym (none_counted (weekly_open mask) from) }

module _ {mask from n count i : ℕ} (g : Few mask from n count i) {w : Bool} (p : w ≡ weekly_closed mask (from + i)) (h : i < n) where
  one_more : (b : Bool) → weekly_open mask (from + i) ≡ b → tally (weekly_open mask) from (i + 1) ≡ tally (weekly_open mask) from i + pick_n b 1 0
  one_more b e =
      tally_add (weekly_open mask) from i 1
      ∙ ap (λ (m : ℕ). tally (weekly_open mask) from i + m) (one_counted (weekly_open mask) (from + i) ∙ ap (λ (t : Bool). pick_n t 1 0) e)

  pub few_shut : w ≡ true → Few mask from n count (i + 1)
  few_shut e =
      record { within = omega arith; small = omega (arith, g.small); counted = omega (arith, g.counted, one_more false (shut_day mask (from + i) p e)) }

  pub few_open : w ≡ false → Few mask from n (count + 1) (i + 1)
  few_open e =
      record { within = omega arith; small = omega (arith, g.small); counted = omega (arith, g.counted, one_more true (open_day mask (from + i) p e)) }

pub few_end : {mask from n count i : ℕ} → Few mask from n count i → n ≤ i → count ≡ tally (weekly_open mask) from n
few_end {mask} {from} {n} {count} {i} g h =
    let e : i ≡ n = omega (arith, g.within) in
    g.counted ∙ ap (tally (weekly_open mask) from) e

pub ruleset few = (few_start, few_shut, few_open, few_end, rules)

-- ---- a day of the week from a day on, with so many before it
pub record Finding (mask from before day left : ℕ) : Type 0 where
  pub some : before < tally (weekly_open mask) 1 7
  pub order : from ≤ day
  pub soon : day < from + 7
  pub counted : tally (weekly_open mask) from (day - from) + left ≡ before

-- a week has more such days than are wanted before it, so the day lies in the week
in_week : (mask from before day left : ℕ) → before < tally (weekly_open mask) 1 7 → from ≤ day → tally (weekly_open mask) from (day - from) + left ≡ before → Finding mask from before day left
in_week mask from before day left some order counted =
    let far : from + 7 ≤ day → ⊥ = λ h. omega (arith, any_week mask from, tally_more (weekly_open mask) from 7 (day - from) (omega arith)) in
    record { some = some; order = order; soon = omega arith; counted = counted }

pub finding_start : {mask from before : ℕ} → before < tally (weekly_open mask) 1 7 → Finding mask from before from before
finding_start {mask} {from} {before} h =
    let e : from - from ≡ 0 = omega arith in
    let z : tally (weekly_open mask) from (from - from) ≡ 0 = ap (tally (weekly_open mask) from) e ∙ none_counted (weekly_open mask) from in
    in_week mask from before from before h (omega arith) (omega arith)

module _ {mask from before day left : ℕ} (g : Finding mask from before day left) where
  -- on to the next day
  next : (b : Bool) → weekly_open mask day ≡ b → tally (weekly_open mask) from (day + 1 - from) ≡ tally (weekly_open mask) from (day - from) + pick_n b 1 0
  next b e = tally_last (weekly_open mask) from day g.order ∙ ap (λ (t : Bool). tally (weekly_open mask) from (day - from) + pick_n t 1 0) e

  pub finding_shut : {w : Bool} → w ≡ weekly_closed mask day → w ≡ true → Finding mask from before (day + 1) left
  finding_shut p e = in_week mask from before (day + 1) left g.some (omega (arith, g.order)) (omega (arith, g.counted, next false (shut_day mask day p e)))

  pub finding_open : {w : Bool} → w ≡ weekly_closed mask day → w ≡ false → (left ≡ 0 → ⊥) → Finding mask from before (day + 1) (left - 1)
  finding_open p e z = in_week mask from before (day + 1) (left - 1) g.some (omega (arith, g.order)) (omega (arith, g.counted, next true (open_day mask day p e)))

  pub finding_here : {w : Bool} → w ≡ weekly_closed mask day → w ≡ false → left ≡ 0 → Found (weekly_open mask) from before 7 day
  finding_here p e z =
      record {
        after = record { order = g.order; is_such = open_day mask day p e; counted = omega (arith, g.counted) };
        soon = g.soon;
      }

pub ruleset finding = (finding_start, finding_shut, finding_open, finding_here, rules)

-- ---- whole weeks and the rest of one
weeks_most : (mask n each : ℕ) → each ≡ tally (weekly_open mask) 1 7 → n ≤ 400 → n / 7 * each ≤ 57 * 7
weeks_most mask n each e h =
    let a : n / 7 ≤ 57 = omega arith in
    let b : each ≤ 7 = omega (arith, tally_few (weekly_open mask) 1 7) in
    mul-le-mul a b

pub weeks_fit : (mask n each : ℕ) → each ≡ tally (weekly_open mask) 1 7 → n ≤ 400 → Fits w32 (n / 7 * each)
weeks_fit mask n each e h = record { fits = omega (arith, weeks_most mask n each e h) }

module _ (mask from n each rest : ℕ) (e : each ≡ tally (weekly_open mask) 1 7) (r : rest ≡ tally (weekly_open mask) from (n % 7)) where
  pub weeks_rest_fit : n ≤ 400 → Fits w32 (n / 7 * each + rest)
  weeks_rest_fit h = record { fits = omega (arith, weeks_most mask n each e h, tally_few (weekly_open mask) from (n % 7)) }

  pub weeks_are : n / 7 * each + rest ≡ tally (weekly_open mask) from n
  weeks_are = rw (e, r) (sym (weeks_and_rest mask from n))

pub ruleset weeks = (weeks_fit, weeks_rest_fit, weeks_are, rules)

pub sound_weekday : (mask : ℕ) (closed : List ℕ) → Fits w8 mask → calendar_ok mask closed ≡ true → 1 ≤ tally (weekly_open mask) 1 7
unfolding calendar_ok
sound_weekday mask closed f ok = some_weekday mask (omega (arith, f.fits)) (not-true (eqb (mask % 128) 127) (both (not (eqb (mask % 128) 127)) _ ok).0)

-- ---- the k-th such day from a day on: whole weeks, then a day of the next
module _ (mask from k each : ℕ) (some : 1 ≤ tally (weekly_open mask) 1 7) (e : each ≡ tally (weekly_open mask) 1 7) where
  pub each_some : 1 ≤ each
  each_some = omega arith

  pub each_none : each ≡ 0 → ⊥
  each_none z = omega arith

  pub kth_product : k ≤ 300000 → Fits w32 ((k - 1) / each * 7)
  kth_product h = record { fits = omega (arith, div-le_self (k - 1) each) }

  pub kth_sum : k ≤ 300000 → from ≤ 876216 → Fits w32 (from + (k - 1) / each * 7)
  kth_sum h l = record { fits = omega (arith, div-le_self (k - 1) each) }

  pub kth_near : k ≤ 300000 → from ≤ 876216 → from + (k - 1) / each * 7 ≤ 4000000
  kth_near h l = omega (arith, div-le_self (k - 1) each)

  pub kth_rest : (k - 1) % each < tally (weekly_open mask) 1 7
  kth_rest = let m : (k - 1) % each < each = mod-lt (k - 1) each_some in omega arith

  pub kth_is : {day : ℕ} → 1 ≤ k → Found (weekly_open mask) (from + (k - 1) / each * 7) ((k - 1) % each) 7 day → Found (weekly_open mask) from (k - 1) (7 * k) day
  kth_is {day} h f =
      let q = (k - 1) / each in
      let s : q * 7 ≡ 7 * q = omega arith in
      let d : from + q * 7 - from ≡ 7 * q = omega arith in
      let w : tally (weekly_open mask) from (from + q * 7 - from) ≡ q * each = ap (tally (weekly_open mask) from) d ∙ whole_weeks mask q from ∙ ap (λ (x : ℕ). q * x) (sym e) in
      let o = f.after.order in
      record {
        after = record {
          order = omega arith;
          is_such = f.after.is_such;
          counted = tally_to (weekly_open mask) from (from + q * 7) day (omega arith) o ∙ omega (arith, w, f.after.counted, div-add-mod' (k - 1) each);
        };
        soon = omega (arith, f.soon, div-le_self (k - 1) each);
      }

pub ruleset kth = (each_some, each_none, kth_product, kth_sum, kth_near, kth_rest, kth_is, rules)
