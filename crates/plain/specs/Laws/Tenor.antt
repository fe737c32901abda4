-- The candidates of a plain request are whole tenors before termination, in days, weeks, months or years.
-- Assumes nothing.
use Rattle.std.specs.Prelude.{ℕ, ◌*◌, ◌≤◌, ◌≡◌, refl, Bool, true, false, ℤ, pos, negsuc, nat_abs}
use Rattle.std.proofs.Common.{ap, sym, arith, one-mul, mul_left_comm, leb-true, ltb-true}
use Rattle.std.proofs.lemmas.Bool.{false≢true}
use Rattle.std.specs.Int.Signed.{lt_z}
use Rattle.period.specs.declared.Unit.{Unit as TimeUnit}
use Rattle.period.specs.declared.Unit.TheVariants.{Days, Weeks, Months, Years}
use Rattle.date.specs.Civil.{fields_of}
use Rattle.date.specs.Date.{in_book, within_span, step, month_index, in_month, shift_days, shift_months, shifted}
use Rattle.calendar.specs.Calendar.{longest, tenor_ok}
use Rattle.steps.specs.Rules.{pace_by}
use Rattle.steps.specs.Candidates.{seed_of, candidate_by, candidate}
use Rattle.plain.specs.Demand.{counted_in, count_of}
use Rattle.plain.specs.Laws.Count.{Line}
use Rattle.plain.specs.Laws.Units.{days_line, months_line}

pub positive_size : (z : ℤ) → lt_z (pos 0) z ≡ true → 1 ≤ nat_abs z
positive_size (pos n) h = ltb-true 0 n h
positive_size (negsuc n) h = absurd (false≢true h)

-- the k-th candidate lies k tenors before the date, or after it
pub candidate_by_tenors : (back : Bool) (n : ℕ) (u : TimeUnit) (t k : ℕ) → candidate back (pace_by n u) (seed_of false t) k ≡ shifted t back (k * n) u
unfolding candidate candidate_by pace_by seed_of shifted shift_days shift_months
candidate_by_tenors back n Days t k = refl
candidate_by_tenors back n Weeks t k = ap (λ (x : ℕ). within_span (step back t x)) (mul_left_comm k 7 n)
candidate_by_tenors back n Months t k = refl
candidate_by_tenors back n Years t k = ap (λ (x : ℕ). in_month (step back (month_index t) x) (fields_of t).day) (mul_left_comm k 12 n)

pub candidate_is : (n : ℕ) (u : TimeUnit) (t k : ℕ) → candidate true (pace_by n u) (seed_of false t) k ≡ shifted t true (k * n) u
candidate_is = candidate_by_tenors true

-- whole tenors are whole counts of days or months
pub counts_by : (back : Bool) (n : ℕ) (u : TimeUnit) (t k : ℕ) → shifted t back (k * n) u ≡ shifted t back (k * (count_of u * n)) (counted_in u)
unfolding shifted
counts_by back n Days t k = ap (λ (x : ℕ). shift_days t back (k * x)) (sym (one-mul n))
counts_by back n Weeks t k = ap (shift_days t back) (sym (mul_left_comm k 7 n))
counts_by back n Months t k = ap (λ (x : ℕ). shift_months t back (k * x)) (sym (one-mul n))
counts_by back n Years t k = ap (shift_months t back) (sym (mul_left_comm k 12 n))

pub counts_are : (n : ℕ) (u : TimeUnit) (t k : ℕ) → shifted t true (k * n) u ≡ shifted t true (k * (count_of u * n)) (counted_in u)
counts_are = counts_by true

pub some_count : (u : TimeUnit) (n : ℕ) → 1 ≤ n → 1 ≤ count_of u * n
some_count Days n h = omega arith
some_count Weeks n h = omega arith
some_count Months n h = omega arith
some_count Years n h = omega arith

pub short : (n : ℕ) (u : TimeUnit) → tenor_ok n u ≡ true → n ≤ longest u
unfolding tenor_ok
short n u h = leb-true n (longest u) h

pub line_of : (e t n : ℕ) (u : TimeUnit) → in_book e ≡ true → e ≤ t → in_book t ≡ true → tenor_ok n u ≡ true → Line (λ x. shifted t true x (counted_in u)) e t (count_of u * n)
unfolding longest
line_of e t n Days a o b h = days_line e t (1 * n) a o b (omega (arith, short n Days h))
line_of e t n Weeks a o b h = days_line e t (7 * n) a o b (omega (arith, short n Weeks h))
line_of e t n Months a o b h = months_line e t (1 * n) a o b (omega (arith, short n Months h))
line_of e t n Years a o b h = months_line e t (12 * n) a o b (omega (arith, short n Years h))
