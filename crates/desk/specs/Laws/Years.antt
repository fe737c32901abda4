-- A year's first and last day, and that a day lies in the year exactly if it is none of the others.
-- Assumes nothing.
use Rattle.std.specs.Prelude.{ℕ, ◌+◌, ◌-◌, ◌≤◌, ◌<◌, ◌≡◌, Bool, leb, get_or}
use Rattle.std.proofs.Math.Path.{refl}
use Rattle.std.proofs.Common.{sym, ap, ◌∙◌, leb-true, leb-false, le-leb}
use Rattle.std.proofs.Math.Bool.{true, false}
use native.Mathlib.Omega.{arith}
use Rattle.refusal.specs.Answer.{given, need, BOOK}
use Rattle.refusal.specs.Laws.Answers.{both}
use Rattle.date.specs.Civil.{pick_n, leap, row_of, month_length, gone, sum_to, day_number, years_gone, fields_at}
use Rattle.date.specs.Date.{SPAN_FIRST, SPAN_LAST, make_of}
use Rattle.date.specs.Laws.Years.{gone_le, gone_suc, years_low, years_high, years_only}
use Rattle.desk.specs.Desk.{year_of, in_years}

pub year_from : (y : ℕ) → in_years y ≡ true → 1800 ≤ y
unfolding in_years
year_from y e = leb-true 1800 y (both _ _ e).0

pub year_to : (y : ℕ) → in_years y ≡ true → y ≤ 2399
unfolding in_years
year_to y e = leb-true y 2399 (both (leb 1800 y) _ e).1

module _ (y : ℕ) (e : in_years y ≡ true) where
  pub make_first : make_of y 1 1 ≡ given (day_number y 1 1)
  unfolding make_of need in_years month_length row_of
  make_first = rw ((both (leb 1800 y) (leb y 2399) e).0, (both (leb 1800 y) (leb y 2399) e).1) (by (leap y))
    where
      by : (b : Bool) → need BOOK (leb 1 (get_or (row_of b) 0 0)) (given (day_number y 1 1)) ≡ given (day_number y 1 1)
      by true = refl
      by false = refl

  pub make_last : make_of y 12 31 ≡ given (day_number y 12 31)
  unfolding make_of need in_years month_length row_of
  make_last = rw ((both (leb 1800 y) (leb y 2399) e).0, (both (leb 1800 y) (leb y 2399) e).1) (by (leap y))
    where
      by : (b : Bool) → need BOOK (leb 31 (get_or (row_of b) 11 0)) (given (day_number y 12 31)) ≡ given (day_number y 12 31)
      by true = refl
      by false = refl

-- in days gone
first_gone : (y : ℕ) → day_number y 1 1 ≡ gone (y - 1) + 1
unfolding day_number sum_to row_of
first_gone y = by (leap y)
  where
    by : (b : Bool) → gone (y - 1) + sum_to (row_of b) 0 + 1 ≡ gone (y - 1) + 1
    by true = omega arith
    by false = omega arith

last_gone : (y : ℕ) → 1 ≤ y → day_number y 12 31 ≡ gone (y - 1 + 1)
unfolding day_number sum_to row_of
last_gone y one = by (leap y) ∙ sym (gone_suc (y - 1) ∙ ap (λ (k : ℕ). gone (y - 1) + pick_n (leap k) 366 365) same)
  where
    same : y - 1 + 1 ≡ y
    same = omega arith

    by : (b : Bool) → gone (y - 1) + sum_to (row_of b) 11 + 31 ≡ gone (y - 1) + pick_n b 366 365
    by true = omega arith
    by false = omega arith

module _ (y x : ℕ) (one : 1 ≤ y) (some : 1 ≤ x) where
  pub year_is : day_number y 1 1 ≤ x → x ≤ day_number y 12 31 → year_of x ≡ y
  unfolding year_of fields_at
  year_is l h =
      let p : years_gone (x - 1) ≡ y - 1 = years_only (x - 1) (y - 1) (omega (arith, first_gone y)) (omega (arith, last_gone y one)) in
      omega arith

  pub year_earlier : x < day_number y 1 1 → year_of x ≡ y → ⊥
  unfolding year_of fields_at
  year_earlier l e =
      let p : years_gone (x - 1) ≡ y - 1 = omega arith in
      let q : gone (y - 1) ≤ x - 1 = rw (← p) (years_low (x - 1)) in
      omega (arith, first_gone y)

  pub year_later : day_number y 12 31 < x → year_of x ≡ y → ⊥
  unfolding year_of fields_at
  year_later l e =
      let p : years_gone (x - 1) ≡ y - 1 = omega arith in
      let q : x - 1 < gone (y - 1 + 1) = rw (← p) (years_high (x - 1)) in
      omega (arith, last_gone y one)

-- the last year of the span ends with it
pub last_in : (y : ℕ) → in_years y ≡ true → day_number y 12 31 ≤ SPAN_LAST
unfolding gone
last_in y e = let g = gone_le (y - 1 + 1) 2399 (omega (arith, year_from y e, year_to y e)) in omega (arith, last_gone y (omega (arith, year_from y e)))

-- a year has a day, and the next one begins where it ends
pub year_some : (y : ℕ) → 1 ≤ y → day_number y 1 1 ≤ day_number y 12 31
unfolding day_number sum_to row_of
year_some y one = by (leap y)
  where
    by : (b : Bool) → gone (y - 1) + sum_to (row_of b) 0 + 1 ≤ gone (y - 1) + sum_to (row_of b) 11 + 31
    by true = omega arith
    by false = omega arith

pub year_next : (y : ℕ) → 1 ≤ y → day_number y 12 31 + 1 ≡ day_number (y + 1) 1 1
year_next y one = omega (arith, last_gone y one, first_gone (y + 1), ap gone same)
  where
    same : y - 1 + 1 ≡ y + 1 - 1
    same = omega arith

-- a year has 365 days and more
pub year_long : (y : ℕ) → day_number y 1 1 + 364 ≤ day_number y 12 31
unfolding day_number sum_to row_of
year_long y = by (leap y)
  where
    by : (b : Bool) → gone (y - 1) + sum_to (row_of b) 0 + 1 + 364 ≤ gone (y - 1) + sum_to (row_of b) 11 + 31
    by true = omega arith
    by false = omega arith

-- the first year of the span begins with it
pub first_in : (y : ℕ) → in_years y ≡ true → SPAN_FIRST ≤ day_number y 1 1
unfolding gone
first_in y e = let g = gone_le 1799 (y - 1) (omega (arith, year_from y e)) in omega (arith, first_gone y)

-- ---- years do not fall as days go on
pub year_mono : (x d : ℕ) → x ≤ d → year_of x ≤ year_of d
unfolding year_of fields_at
year_mono x d h = by (leb (years_gone (x - 1)) (years_gone (d - 1))) refl
  where
    by : (b : Bool) → leb (years_gone (x - 1)) (years_gone (d - 1)) ≡ b → years_gone (x - 1) + 1 ≤ years_gone (d - 1) + 1
    by true e = omega (arith, leb-true (years_gone (x - 1)) (years_gone (d - 1)) e)
    by false e =
        let l = leb-false (years_gone (x - 1)) (years_gone (d - 1)) e in
        let g = gone_le (years_gone (d - 1) + 1) (years_gone (x - 1)) (omega arith) in
        let bad : ⊥ = omega (arith, years_low (x - 1), years_high (d - 1)) in
        absurd bad

pub earlier_year : (x d : ℕ) → year_of x < year_of d → x < d
earlier_year x d h = by (leb d x) refl
  where
    by : (b : Bool) → leb d x ≡ b → x < d
    by true e = let bad : ⊥ = omega (arith, year_mono d x (leb-true d x e)) in absurd bad
    by false e = leb-false d x e

module _ (y x : ℕ) (one : 1 ≤ y) (some : 1 ≤ x) where
  pub year_below : x < day_number y 1 1 → year_of x < y
  year_below h =
      let f = day_number y 1 1 in
      let is : year_of f ≡ y = year_is y f one (omega arith) (omega arith) (year_some y one) in
      let m = year_mono x f (omega arith) in
      by (leb y (year_of x)) refl is m
    where
      by : (b : Bool) → leb y (year_of x) ≡ b → year_of (day_number y 1 1) ≡ y → year_of x ≤ year_of (day_number y 1 1) → year_of x < y
      by true e is m = absurd (year_earlier y x one some h (omega (arith, leb-true y (year_of x) e)))
      by false e is m = leb-false y (year_of x) e

  pub year_above : day_number y 12 31 < x → y < year_of x
  year_above h =
      let f = day_number y 12 31 in
      let is : year_of f ≡ y = year_is y f one (omega (arith, first_gone y, year_some y one)) (year_some y one) (omega arith) in
      let m = year_mono f x (omega arith) in
      by (leb (year_of x) y) refl is m
    where
      by : (b : Bool) → leb (year_of x) y ≡ b → year_of (day_number y 12 31) ≡ y → year_of (day_number y 12 31) ≤ year_of x → y < year_of x
      by true e is m = absurd (year_later y x one some h (omega (arith, leb-true (year_of x) y e)))
      by false e is m = leb-false (year_of x) y e

  pub year_start_lem : y ≤ year_of x → day_number y 1 1 ≤ x
  year_start_lem h = by (leb (day_number y 1 1) x) refl
    where
      by : (b : Bool) → leb (day_number y 1 1) x ≡ b → day_number y 1 1 ≤ x
      by true e = leb-true (day_number y 1 1) x e
      by false e = let bad : ⊥ = omega (arith, year_below (leb-false (day_number y 1 1) x e)) in absurd bad

  pub year_end : year_of x ≤ y → x ≤ day_number y 12 31
  year_end h = by (leb x (day_number y 12 31)) refl
    where
      by : (b : Bool) → leb x (day_number y 12 31) ≡ b → x ≤ day_number y 12 31
      by true e = leb-true x (day_number y 12 31) e
      by false e = let bad : ⊥ = omega (arith, year_above (leb-false x (day_number y 12 31) e)) in absurd bad

-- a day of the span lies in one of its years
first_day : day_number 1800 1 1 ≡ SPAN_FIRST
unfolding day_number sum_to row_of gone leap
first_day = refl

last_day_lem : day_number 2399 12 31 ≡ SPAN_LAST
unfolding day_number sum_to row_of gone leap
last_day_lem = refl

pub span_year : (x : ℕ) → SPAN_FIRST ≤ x → x ≤ SPAN_LAST → in_years (year_of x) ≡ true
unfolding in_years
span_year x l h =
    let a : year_of SPAN_FIRST ≡ 1800 = year_is 1800 SPAN_FIRST (omega arith) (omega arith) (omega (arith, first_day)) (omega (arith, first_day, year_long 1800)) in
    let b : year_of SPAN_LAST ≡ 2399 = year_is 2399 SPAN_LAST (omega arith) (omega arith) (omega (arith, last_day_lem, year_long 2399)) (omega (arith, last_day_lem)) in
    rw (le-leb 1800 (year_of x) (omega (arith, year_mono SPAN_FIRST x l)), le-leb (year_of x) 2399 (omega (arith, year_mono x SPAN_LAST h))) refl
