-- The twentieth before or after a date of 1900 to 2200 is a day at most three months off.
-- Assumes nothing.
use Rattle.std.specs.Prelude.{ℕ, ◌+◌, ◌-◌, ◌≤◌, ◌<◌, ◌≡◌, refl, Bool, ltb}
use Rattle.std.proofs.Common.{ap, ◌∙◌, ⊎_elim, arith, eq-or-lt_of_le}
use Rattle.std.proofs.Math.Bool.{true, false}
use Rattle.date.specs.Civil.{leap, row_of, month_length, gone, sum_to, guess, years_gone, month_in, day_in, place_of, fields_at, fields_of}
use Rattle.date.specs.Date.{month_index}
use Rattle.imm.specs.Laws.Order.{month_le}
use Rattle.steps.specs.declared.Rule.{Rule}
use Rattle.steps.specs.Rules.{in_imm_months}
use Rattle.steps.specs.Twentieths.{twentieth_of, moved_if, skip_of, to_imm_month, next_twentieth, previous_twentieth}
use Rattle.outcomes.specs.Late.{Fine, gives, steps, weaker}
use Rattle.outcomes.specs.Laws.Days.{At, made_fine, Between, mid_at, wider, in_between, sooner, shift_fine}

skip_few : (back : Bool) (month : ℕ) → skip_of back month ≤ 2
unfolding skip_of
skip_few true month = omega arith
skip_few false month = omega arith

module _ {c : Type 0} where
  moved_fine : (b back : Bool) (lo hi k day : ℕ) → 21600 ≤ lo - k → hi + k ≤ 28799 → Between lo hi day → Fine c (Between (lo - k) (hi + k)) (moved_if b back k day)
  unfolding moved_if
  moved_fine true back lo hi k day a b m = shift_fine lo hi k day back a b m
  moved_fine false back lo hi k day a b m = gives day (wider lo hi (lo - k) (hi + k) day (omega arith) (omega arith) m)

  imm_fine : (rule : Rule) (back : Bool) (lo hi day : ℕ) → 21602 ≤ lo → hi ≤ 28797 → Between lo hi day → Fine c (Between (lo - 2) (hi + 2)) (to_imm_month rule back day)
  unfolding to_imm_month
  imm_fine rule back lo hi day a b m =
      let k = skip_few back (fields_of day).month in
      weaker (moved_fine (in_imm_months rule) back lo hi (skip_of back (fields_of day).month) day (omega arith) (omega arith) m) (λ r s. wider (lo - skip_of back (fields_of day).month) (hi + skip_of back (fields_of day).month) (lo - 2) (hi + 2) r (omega arith) (omega arith) s)

  module _ (lo hi day : ℕ) (m : ℕ) (small : m ≤ 1000) (at : At m day) (a : 22700 ≤ lo) (b : hi ≤ 26500) (from : lo ≤ month_index day) (to : month_index day ≤ hi) where
    twentieth_fine : Fine c (Between lo hi) (twentieth_of day)
    unfolding twentieth_of
    twentieth_fine = weaker (made_fine m day small at 20 (omega arith) (omega arith)) (λ r i. in_between (month_index day) lo hi r from to i)

    by_imm_lem : (rule : Rule) (back : Bool) (r : ℕ) → Between (lo - 1) (hi + 1) r → Fine c (Between (lo - 3) (hi + 3)) (to_imm_month rule back r)
    by_imm_lem rule back r s = weaker (imm_fine rule back (lo - 1) (hi + 1) r (omega arith) (omega arith) s) (λ x z. wider (lo - 1 - 2) (hi + 1 + 2) (lo - 3) (hi + 3) x (omega arith) (omega arith) z)

    pub next_fine : (rule : Rule) → Fine c (Between (lo - 3) (hi + 3)) (next_twentieth rule day)
    unfolding next_twentieth
    next_fine rule = steps _ twentieth_fine (λ t s. steps _ (moved_fine (ltb t day) false lo hi 1 t (omega arith) (omega arith) s) (λ r z. by_imm_lem rule false r z))

    pub previous_fine : (rule : Rule) → Fine c (Between (lo - 3) (hi + 3)) (previous_twentieth rule day)
    unfolding previous_twentieth
    previous_fine rule = steps _ twentieth_fine (λ t s. steps _ (moved_fine (ltb day t) true lo hi 1 t (omega arith) (omega arith) s) (λ r z. by_imm_lem rule true r z))

-- ---- the day after a twentieth, from which OldCDS looks for another
last_day_lem : month_index 803259 ≡ 26403
unfolding month_index leap row_of month_length gone sum_to guess years_gone month_in day_in place_of fields_at
last_day_lem = refl

pub coming_index : (day : ℕ) → Between 22809 26402 day → (22809 ≤ month_index (day + 1)) × (month_index (day + 1) ≤ 26403) × At 1 (day + 1)
coming_index day h =
    let b = sooner day 803259 26403 (omega arith) last_day_lem (omega (arith, h.to)) in
    let a : At 0 day = mid_at day (wider 22809 26402 22801 26411 day (omega arith) (omega arith) h) in
    (omega (arith, h.from, month_le day (day + 1) (omega (arith, h.span.low)) (omega arith)), upto b, record { low = omega (arith, a.low); high = omega (arith, a.high) })
  where
    at : day ≡ 803259 → ⊥
    at e = let x : month_index day ≡ 26403 = ap month_index e ∙ last_day_lem in omega (arith, h.to)

    upto : day ≤ 803259 → month_index (day + 1) ≤ 26403
    upto b = ⊎_elim (λ (e : day ≡ 803259). absurd (at e)) (λ (l : day < 803259). omega (arith, last_day_lem, month_le (day + 1) 803259 (omega arith) (omega arith))) (eq-or-lt_of_le b)
