-- A day number and its year, month and day determine each other.
-- Assumes nothing.
use Rattle.std.specs.Prelude.{ℕ, ◌+◌, ◌-◌, ◌≤◌, ◌<◌, ◌≡◌, get_or}
use Rattle.std.proofs.Common.{ap, ◌∙◌, sym, arith, add-sub_cancel}
use Rattle.date.specs.declared.Fields.{Fields}
use Rattle.date.specs.declared.civil.Place.{Place}
use Rattle.date.specs.Civil.{pick_n, leap, row_of, gone, years_gone, sum_to, place_of, fields_at, fields_of, day_number, month_length}
use Rattle.date.specs.Laws.Years.{gone_suc, years_low, years_only, in_year}
use Rattle.date.specs.Laws.Months.{place_ok, place_at, place_small, row_length, year_sum, sum_in}

-- the year, month and day exist
pub record Valid (y m d : ℕ) : Type 0 where
  pub year : 1 ≤ y
  pub month : 1 ≤ m
  pub twelve : m ≤ 12
  pub first : 1 ≤ d
  pub last : d ≤ month_length y m

module _ (z p k e : ℕ) (inside : sum_to (row_of (leap (p + 1))) k + e < pick_n (leap (p + 1)) 366 365) (at : z ≡ gone p + (sum_to (row_of (leap (p + 1))) k + e)) where
  years_are : years_gone z ≡ p
  years_are = years_only z p (omega arith) (omega (arith, gone_suc p))

pub day_in_year : (y k e : ℕ) → k < 12 → e < get_or (row_of (leap y)) k 0 → sum_to (row_of (leap y)) k + e < pick_n (leap y) 366 365
day_in_year y k e h i = rw (← year_sum (leap y)) (sum_in (row_of (leap y)) k e (rw row_length h) i)

fields_go : (z p k e : ℕ) → k < 12 → e < get_or (row_of (leap (p + 1))) k 0 → z ≡ gone p + (sum_to (row_of (leap (p + 1))) k + e) → fields_at z ≡ record { year = p + 1; month = k + 1; day = e + 1 }
unfolding fields_at
fields_go z p k e h i at =
    let q : years_gone z ≡ p = years_are z p k e (day_in_year (p + 1) k e h i) at in
    let w : ◌≡◌ {A = Place} (record { month = k; day = e }) (place_of (leap (p + 1)) (z - gone p)) = place_at (leap (p + 1)) k e (z - gone p) h i (omega arith) in
    rw q (ap (λ (x : Place). record { year = p + 1; month = x.month + 1; day = x.day + 1 }) (sym w))

fields_at_lem : (y m d z p k e : ℕ) → p + 1 ≡ y → k + 1 ≡ m → e + 1 ≡ d → k < 12 → e < get_or (row_of (leap y)) k 0 → z ≡ gone p + (sum_to (row_of (leap y)) k + e) → fields_at z ≡ record { year = y; month = m; day = d }
fields_at_lem y m d z p k e py pm pd h i at = rw (← py, ← pm, ← pd) (fields_go z p k e h (rw (← py) at i) (rw (← py) at at))

-- the fields of a day number are what it was made of
pub fields_of_day : (y m d : ℕ) → Valid y m d → fields_of (day_number y m d) ≡ record { year = y; month = m; day = d }
unfolding day_number month_length
fields_of_day y m d v =
    fields_at_lem y m d (gone (y - 1) + sum_to (row_of (leap y)) (m - 1) + d - 1) (y - 1) (m - 1) (d - 1) (omega arith) (omega arith) (omega arith) (omega arith) (omega arith) (omega arith)

-- and a day number is made of its fields
pub day_of_fields : (n : ℕ) → 1 ≤ n → day_number (fields_of n).year (fields_of n).month (fields_of n).day ≡ n
unfolding day_number fields_at
day_of_fields n h =
    let p = place_ok (leap (years_gone (n - 1) + 1)) (n - 1 - gone (years_gone (n - 1))) (in_year (n - 1)) in
    simp add-sub_cancel (omega (arith, p.sum, years_low (n - 1)))

pub fields_valid : (n : ℕ) → Valid (fields_of n).year (fields_of n).month (fields_of n).day
unfolding fields_at month_length
fields_valid n =
    let l = leap (years_gone (n - 1) + 1) in
    let j = n - 1 - gone (years_gone (n - 1)) in
    let p = place_ok l j (in_year (n - 1)) in
    record {
      year = omega arith;
      month = omega arith;
      twelve = omega (arith, (place_small l j (in_year (n - 1))).0);
      first = omega arith;
      last = simp add-sub_cancel (omega (arith, p.day));
    }

-- so two dates with one number are one date
pub same_day : (y m d y' m' d' : ℕ) → Valid y m d → Valid y' m' d' → day_number y m d ≡ day_number y' m' d' → ◌≡◌ {A = Fields} (record { year = y; month = m; day = d }) (record { year = y'; month = m'; day = d' })
same_day y m d y' m' d' v v' e = sym (fields_of_day y m d v) ∙ ap fields_of e ∙ fields_of_day y' m' d' v'
