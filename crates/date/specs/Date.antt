-- Document 01, "Days": what each function of a date answers. A date given lies in the book, and a result from 1800 to 2399.
-- Assumes nothing.
use Rattle.std.specs.Prelude.{ℕ, ◌+◌, ◌-◌, ◌*◌, ◌/◌, ◌%◌, min, Bool, true, false, ◌&&◌, leb, ℤ, nat_abs, Result, Ok, Err}
use Rattle.std.proofs.Math.IntN.{sub_ℕ}
use Rattle.refusal.specs.Answer.{Answer, given, refused, need, then, BOOK}
use Rattle.refusal.specs.declared.Refusal.{Refusal}
use Rattle.refusal.specs.Refusals.{number_of}
use Rattle.std.specs.declared.cmp.Ordering.{Ordering}
use Rattle.std.specs.Ordering.{nat_cmp}
use Rattle.period.specs.Period.{is_negative}
use Rattle.period.specs.declared.Unit.{Unit}
use Rattle.period.specs.declared.Unit.TheVariants.{Days, Weeks, Months, Years}
use Rattle.date.specs.declared.Date.{Date}
use Rattle.date.specs.declared.Fields.{Fields}
use Rattle.date.specs.Civil.{day_number, month_length, fields_of, weekday_of, days_until}

-- ---- what the code's result says where its value is a date: the day number, or the number of the refusal
abbrev pub dated_by : {E : Type 0} → (E → ℕ) → Result Date E → Answer ℕ
dated_by number (Ok d) = given d.day
dated_by number (Err e) = refused (number e)

abbrev pub dated : Result Date Refusal → Answer ℕ
dated r = dated_by number_of r

-- ---- the book, and the span of results: 1800-01-01 to 2399-12-31
unfoldable pub in_book : ℕ → Bool
in_book n = leb 693961 n && leb n 803168

abbrev pub SPAN_FIRST : ℕ
SPAN_FIRST = 657072

abbrev pub SPAN_LAST : ℕ
SPAN_LAST = 876216

unfoldable pub within_span : ℕ → Answer ℕ
within_span n = need BOOK (leb SPAN_FIRST n) (need BOOK (leb n SPAN_LAST) (given n))

-- a day that is given, in the book
abbrev pub booked_of : ℕ → Answer ℕ
booked_of n = need BOOK (in_book n) (given n)

-- ---- make and fields
unfoldable pub make_of : (y m d : ℕ) → Answer ℕ
make_of y m d =
    need BOOK (leb 1800 y)
    (need BOOK (leb y 2399)
    (need BOOK (leb 1 m)
    (need BOOK (leb m 12)
    (need BOOK (leb 1 d)
    (need BOOK (leb d (month_length y m))
    (given (day_number y m d)))))))

unfoldable pub fields_in : ℕ → Answer Fields
fields_in n = need BOOK (in_book n) (given (fields_of n))

unfoldable pub weekday_in : ℕ → Answer ℕ
weekday_in n = need BOOK (in_book n) (given (weekday_of n))

-- ---- month ends, and months counted as 12 * year + month - 1
unfoldable pub last_of_month : ℕ → Answer ℕ
last_of_month n = make_of (fields_of n).year (fields_of n).month (month_length (fields_of n).year (fields_of n).month)

unfoldable pub month_end_of : ℕ → Answer ℕ
month_end_of n = need BOOK (in_book n) (last_of_month n)

unfoldable pub month_index : ℕ → ℕ
month_index n = 12 * (fields_of n).year + (fields_of n).month - 1

-- the day of month t, or its last day where it is shorter
unfoldable pub in_month : ℕ → ℕ → Answer ℕ
in_month t d = make_of (t / 12) (t % 12 + 1) (min d (month_length (t / 12) (t % 12 + 1)))

-- ---- advance: the sign says whether forwards or back, and what lies before 0 is 0
unfoldable pub step : Bool → (n k : ℕ) → ℕ
step false n k = n + k
step true n k = n - k

unfoldable pub shift_days : (n : ℕ) (back : Bool) (k : ℕ) → Answer ℕ
shift_days n back k = within_span (step back n k)

unfoldable pub shift_months : (n : ℕ) (back : Bool) (k : ℕ) → Answer ℕ
shift_months n back k = in_month (step back (month_index n) k) (fields_of n).day

-- a week is seven days, a year twelve months
unfoldable pub shifted : (n : ℕ) (back : Bool) (k : ℕ) → Unit → Answer ℕ
shifted n back k Days = shift_days n back k
shifted n back k Weeks = shift_days n back (7 * k)
shifted n back k Months = shift_months n back k
shifted n back k Years = shift_months n back (12 * k)

unfoldable pub advance_of : ℕ → ℤ → Unit → Answer ℕ
advance_of n z u = need BOOK (in_book n) (shifted n (is_negative z) (nat_abs z) u)

-- ---- weekdays
unfoldable pub next_weekday_of : ℕ → ℕ → Answer ℕ
next_weekday_of n w = need BOOK (leb 1 w) (need BOOK (leb w 7) (need BOOK (in_book n) (within_span (n + days_until n w))))

unfoldable pub nth_weekday_of : (n w m y : ℕ) → Answer ℕ
nth_weekday_of n w m y =
    need BOOK (leb 1 w)
    (need BOOK (leb w 7)
    (need BOOK (leb 1 n)
    (need BOOK (leb n 5)
    (then (make_of y m 1) (λ first. make_of y m (1 + days_until first w + 7 * (n - 1)))))))

-- ---- two dates
unfoldable pub difference_of : ℕ → ℕ → Answer ℤ
difference_of a b = need BOOK (in_book a) (need BOOK (in_book b) (given (sub_ℕ a b)))

unfoldable pub compare_of : ℕ → ℕ → Answer Ordering
compare_of a b = need BOOK (in_book a) (need BOOK (in_book b) (given (nat_cmp a b)))
