-- Days that are not weekly closed: every seven days have as many.
-- Assumes nothing.
use Prim.Native.Nat.{ℕ, zero, suc, ◌+◌, ◌*◌, ◌/◌, ◌%◌, ◌≤◌, ◌<◌}
use Rattle.std.specs.Prelude.{◌≡◌, Bool, true, false, ◌||◌, eqb, ltb}
use Rattle.std.proofs.Math.Path.{refl, ap}
use Rattle.std.proofs.Common.{sym, ◌∙◌, ltb-true}
use Rattle.std.proofs.Math.Bool.{not}
use native.Mathlib.Omega.{arith}
use Rattle.refusal.specs.Laws.Answers.{all_below, below}
use Rattle.date.specs.Civil.{pick_n}
use Rattle.calendar.specs.Open.{weekly_closed}
use Rattle.calendar.specs.Laws.Mask.{week_on}
use Rattle.opendays.specs.Count.{tally, weekly_open}
use Rattle.opendays.specs.Laws.Tally.{tally_add}

-- ---- some weekday is open where not all seven bits are set
or_left : (a b : Bool) → (a || b) ≡ true → a ≡ false → b ≡ true
or_left true b e f = cc
or_left false b e f = e

every_mask : all_below 256 (λ m. eqb (m % 128) 127 || ltb 0 (tally (weekly_open m) 1 7)) ≡ true
unfolding all_below tally weekly_open weekly_closed
every_mask = refl

pub some_weekday : (mask : ℕ) → mask < 256 → eqb (mask % 128) 127 ≡ false → 1 ≤ tally (weekly_open mask) 1 7
some_weekday mask h e =
    ltb-true 0 _ (or_left (eqb (mask % 128) 127) _ (below 256 (λ m. eqb (m % 128) 127 || ltb 0 (tally (weekly_open m) 1 7)) every_mask mask h) e)

module _ (mask : ℕ) where
  week_same : (day : ℕ) → weekly_open mask (day + 7) ≡ weekly_open mask day
  unfolding weekly_open
  week_same day = ap not (week_on mask day)

  weeks_same : (q day : ℕ) → weekly_open mask (day + 7 * q) ≡ weekly_open mask day
  weeks_same zero day = let e : day + 7 * 0 ≡ day = omega arith in rw e
  weeks_same (suc q) day =
      let e : day + 7 * suc q ≡ day + 7 * q + 7 = omega arith in
      rw e (week_same (day + 7 * q) ∙ weeks_same q day)

  shifted : (q day n : ℕ) → tally (weekly_open mask) (day + 7 * q) n ≡ tally (weekly_open mask) day n
  unfolding tally
  shifted q day zero = refl
  shifted q day (suc n) =
      let e : day + 7 * q + 1 ≡ day + 1 + 7 * q = omega arith in
      rw (weeks_same q day, e) (ap (λ (m : ℕ). pick_n (weekly_open mask day) 1 0 + m) (shifted q (day + 1) n))

  -- a week from any day on
  next_week : (day : ℕ) → tally (weekly_open mask) (day + 1) 7 ≡ tally (weekly_open mask) day 7
  next_week day =
      let a : tally (weekly_open mask) day 8 ≡ tally (weekly_open mask) day 1 + tally (weekly_open mask) (day + 1) 7 = tally_add (weekly_open mask) day 1 7 in
      let b : tally (weekly_open mask) day 8 ≡ tally (weekly_open mask) day 7 + tally (weekly_open mask) (day + 7) 1 = tally_add (weekly_open mask) day 7 1 in
      let c : tally (weekly_open mask) (day + 7) 1 ≡ tally (weekly_open mask) day 1 = shifted 1 day 1 in
      omega arith

  from_none : (day : ℕ) → tally (weekly_open mask) day 7 ≡ tally (weekly_open mask) 0 7
  from_none zero = refl
  from_none (suc day) =
      let e : suc day ≡ day + 1 = omega arith in
      rw e (next_week day ∙ from_none day)

  pub any_week : (day : ℕ) → tally (weekly_open mask) day 7 ≡ tally (weekly_open mask) 1 7
  any_week day = from_none day ∙ sym (from_none 1)

  pub whole_weeks : (q day : ℕ) → tally (weekly_open mask) day (7 * q) ≡ q * tally (weekly_open mask) 1 7
  unfolding tally
  whole_weeks zero day = omega arith
  whole_weeks (suc q) day =
      let e : 7 * suc q ≡ 7 + 7 * q = omega arith in
      let w = any_week day in
      rw e (tally_add (weekly_open mask) day 7 (7 * q) ∙ omega (arith, w, whole_weeks q (day + 7)))

  -- whole weeks, and the rest of one
  pub weeks_and_rest : (day n : ℕ) → tally (weekly_open mask) day n ≡ n / 7 * tally (weekly_open mask) 1 7 + tally (weekly_open mask) day (n % 7)
  weeks_and_rest day n =
      let e : n ≡ 7 * (n / 7) + n % 7 = omega arith in
      ap (tally (weekly_open mask) day) e
      ∙ tally_add (weekly_open mask) day (7 * (n / 7)) (n % 7)
      ∙ ap (λ (m : ℕ). m + tally (weekly_open mask) (day + 7 * (n / 7)) (n % 7)) (whole_weeks (n / 7) day)
      ∙ ap (λ (m : ℕ). n / 7 * tally (weekly_open mask) 1 7 + m) (shifted (n / 7) day (n % 7))
