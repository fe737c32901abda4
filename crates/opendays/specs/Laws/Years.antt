-- The years of the places: where they begin, and which one a day lies in.
-- Assumes nothing.
use Rattle.std.specs.Prelude.{ℕ, ◌+◌, ◌-◌, ◌≤◌, ◌<◌, ◌≡◌, refl, Bool, true, false}
use Rattle.std.proofs.Common.{ap, ◌∙◌, arith}
use Rattle.date.specs.Civil.{pick_n, leap, row_of, gone, sum_to, years_gone, fields_at, day_number}
use Rattle.date.specs.Date.{SPAN_FIRST, SPAN_LAST}
use Rattle.date.specs.Laws.Years.{gone_suc, gone_mono, gone_le, years_low, years_high}
use Rattle.opendays.specs.Index.{year_start, place_of}

no_month : (l : Bool) → sum_to (row_of l) 0 ≡ 0
unfolding sum_to row_of
no_month true = refl
no_month false = refl

-- ---- a year begins after the days of the years before it
pub start_is : (i : ℕ) → year_start i ≡ gone (1799 + i) + 1
unfolding year_start day_number
start_is i =
    let e : 1800 + i - 1 ≡ 1799 + i = omega arith in
    rw e (omega (arith, no_month (leap (1800 + i))))

first_gone : gone 1799 ≡ 657071
unfolding gone
first_gone = refl

last_gone : gone 2399 ≡ 876216
unfolding gone
last_gone = refl

pub start_first : year_start 0 ≡ SPAN_FIRST
start_first = omega (arith, start_is 0, first_gone)

pub start_last : year_start 600 ≡ 876217
start_last = omega (arith, start_is 600, last_gone)

pub start_le : (i j : ℕ) → i ≤ j → year_start i ≤ year_start j
start_le i j h = omega (arith, start_is i, start_is j, gone_le (1799 + i) (1799 + j) (omega arith))

pub start_from : (i : ℕ) → SPAN_FIRST ≤ year_start i
start_from i = omega (arith, start_first, start_le 0 i (omega arith))

pub start_to : (i : ℕ) → i ≤ 600 → year_start i ≤ 876217
start_to i h = omega (arith, start_last, start_le i 600 h)

pub start_lt : (i j : ℕ) → i < j → year_start i < year_start j
start_lt i j h = omega (arith, start_is i, start_is j, gone_mono (1799 + i) (1799 + j) (omega arith))

pub start_before : (i : ℕ) → i < 600 → year_start i ≤ SPAN_LAST
start_before i h = omega (arith, start_last, start_lt i 600 h)

length_le : (l : Bool) → pick_n l 366 365 ≤ 366
length_le true = omega arith
length_le false = omega arith

-- a year has at most 366 days
pub start_next : (i : ℕ) → year_start (i + 1) ≤ year_start i + 366
start_next i =
    let e : 1799 + (i + 1) ≡ 1799 + i + 1 = omega arith in
    let g : gone (1799 + (i + 1)) ≡ gone (1799 + i) + pick_n (leap (1799 + i + 1)) 366 365 = ap gone e ∙ gone_suc (1799 + i) in
    omega (arith, start_is i, start_is (i + 1), g, length_le (leap (1799 + i + 1)))

-- ---- the place of a day of the span
place_is : (day : ℕ) → place_of day ≡ years_gone (day - 1) + 1 - 1800
unfolding place_of fields_at
place_is day = refl

module _ (day : ℕ) (from : SPAN_FIRST ≤ day) where
  pub years_from : 1799 ≤ years_gone (day - 1)
  years_from =
      let bad : years_gone (day - 1) < 1799 → ⊥ = λ h. omega (arith, first_gone, gone_le (years_gone (day - 1) + 1) 1799 (omega arith), years_high (day - 1)) in
      omega arith

  at_place : 1799 + place_of day ≡ years_gone (day - 1)
  at_place = omega (arith, place_is day, years_from)

  pub place_low : year_start (place_of day) ≤ day
  place_low =
      let e : gone (1799 + place_of day) ≡ gone (years_gone (day - 1)) = ap gone at_place in
      omega (arith, start_is (place_of day), e, years_low (day - 1))

  pub place_high : day < year_start (place_of day + 1)
  place_high =
      let f : 1799 + (place_of day + 1) ≡ years_gone (day - 1) + 1 = omega (arith, at_place) in
      let e : gone (1799 + (place_of day + 1)) ≡ gone (years_gone (day - 1) + 1) = ap gone f in
      omega (arith, start_is (place_of day + 1), e, years_high (day - 1))

  -- the places of later years are those whose year begins after the day
  pub later_place : (i : ℕ) → place_of day + 1 ≤ i → day < year_start i
  later_place i h = omega (arith, place_high, start_le (place_of day + 1) i h)

  pub no_later_place : (i : ℕ) → i ≤ place_of day → year_start i ≤ day
  no_later_place i h = omega (arith, place_low, start_le i (place_of day) h)

  pub place_to : day ≤ SPAN_LAST → place_of day < 600
  place_to h =
      let bad : 600 ≤ place_of day → ⊥ = λ l. omega (arith, start_last, no_later_place 600 l) in
      omega arith
