-- The most days or months that can be taken from a date without passing an earlier one, or added without passing a later one, by a sum.
-- Assumes nothing.
use Rattle.std.specs.Prelude.{ℕ, ◌-◌, true, false, ltb}
use Rattle.refusal.specs.Answer.{Answer, given, refused}
use Rattle.period.specs.declared.Unit.{Unit as TimeUnit}
use Rattle.period.specs.declared.Unit.TheVariants.{Days, Weeks, Months, Years}
use Rattle.date.specs.Civil.{pick_n}
use Rattle.date.specs.Date.{month_index, shifted}

-- the date of an answer
abbrev pub day_or : Answer ℕ → ℕ
day_or (given d) = d
day_or (refused n) = 0

-- ---- the most by a sum: the days between, or the months between, one less where the day of the effective date's month comes out before it
unfoldable pub months_between : ℕ → ℕ → ℕ
months_between e t = month_index t - month_index e

unfoldable pub most_by : TimeUnit → ℕ → ℕ → ℕ
most_by Days e t = t - e
most_by Weeks e t = t - e
most_by Months e t = pick_n (ltb (day_or (shifted t true (months_between e t) Months)) e) (months_between e t - 1) (months_between e t)
most_by Years e t = pick_n (ltb (day_or (shifted t true (months_between e t) Months)) e) (months_between e t - 1) (months_between e t)

-- the days between, or the months between, one less where the day of that month comes out after x
unfoldable pub most_on_by : TimeUnit → ℕ → ℕ → ℕ
most_on_by Days e x = x - e
most_on_by Weeks e x = x - e
most_on_by Months e x = pick_n (ltb x (day_or (shifted e false (months_between e x) Months))) (months_between e x - 1) (months_between e x)
most_on_by Years e x = pick_n (ltb x (day_or (shifted e false (months_between e x) Months))) (months_between e x - 1) (months_between e x)
