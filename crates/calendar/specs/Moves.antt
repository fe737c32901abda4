-- Change request L8: how far a date moved. An adjustment, a month end and an advance answer a date and the days from a base to it, later being
-- positive. The dates are those of `Adjust` and `Calendar`.
-- Assumes nothing.
use Rattle.std.specs.Prelude.{ℕ, Bool, true, false, List, ℤ, nat_abs, Result, Ok, Err}
use Rattle.std.proofs.Math.IntN.{sub_ℕ}
use Rattle.refusal.specs.Answer.{Answer, given, refused, then}
use Rattle.refusal.specs.declared.Refusal.{Refusal}
use Rattle.refusal.specs.Refusals.{number_of}
use Rattle.period.specs.Period.{is_negative}
use Rattle.period.specs.declared.Unit.{Unit}
use Rattle.period.specs.declared.Unit.TheVariants.{Days, Weeks, Months, Years}
use Rattle.date.specs.Date.{last_of_month, shifted}
use Rattle.calendar.specs.declared.Convention.{Convention}
use Rattle.calendar.specs.declared.Moved.{Moved}
use Rattle.calendar.specs.Adjust.{end_asked}
use Rattle.calendar.specs.Calendar.{adjust_of, last_open_of, advanced_of}

-- what the code's result says where its value is a move: the day number and the days, or the number of the refusal
abbrev pub moved_by : {E : Type 0} → (E → ℕ) → Result Moved E → Answer (ℕ × ℤ)
moved_by number (Ok m) = given (m.date.day, m.days)
moved_by number (Err e) = refused (number e)

abbrev pub moved : Result Moved Refusal → Answer (ℕ × ℤ)
moved r = moved_by number_of r

-- a date, and how many days after the base it lies
unfoldable pub moved_from : (base date : Answer ℕ) → Answer (ℕ × ℤ)
moved_from base date = then date (λ d. then base (λ b. given (d, sub_ℕ d b)))

-- the date alone
unfoldable pub date_of : Answer (ℕ × ℤ) → Answer ℕ
date_of (given m) = given m.0
date_of (refused n) = refused n

-- ---- the base of an advance: for open days so many natural ones; else the sum, or its month's last day where the month end is given
unfoldable pub land_base : (sum : ℕ) (at_end : Bool) → Answer ℕ
land_base sum true = last_of_month sum
land_base sum false = given sum

module _ (mask : ℕ) (closed : List ℕ) where
  unfoldable pub months_base : (back : Bool) (size : ℕ) → Unit → (endOfMonth : Bool) (day : ℕ) → Answer ℕ
  months_base back size unit endOfMonth day =
      then (shifted day back size unit) (λ sum. then (end_asked mask closed endOfMonth day) (land_base sum))

  unfoldable pub advance_base : (back : Bool) (size : ℕ) → Unit → (endOfMonth : Bool) (day : ℕ) → Answer ℕ
  advance_base back size Days endOfMonth day = shifted day back size Days
  advance_base back size Weeks endOfMonth day = shifted day back size Weeks
  advance_base back size Months endOfMonth day = months_base back size Months endOfMonth day
  advance_base back size Years endOfMonth day = months_base back size Years endOfMonth day

  -- ---- the public functions: an adjustment moves the day given, a month end its month's last day
  unfoldable pub adjust_move_of : Convention → (day : ℕ) → Answer (ℕ × ℤ)
  adjust_move_of convention day = moved_from (given day) (adjust_of mask closed convention day)

  unfoldable pub last_open_move_of : (day : ℕ) → Answer (ℕ × ℤ)
  last_open_move_of day = moved_from (last_of_month day) (last_open_of mask closed day)

  unfoldable pub advance_move_of : (length : ℤ) → Unit → Convention → (endOfMonth : Bool) (day : ℕ) → Answer (ℕ × ℤ)
  advance_move_of length unit convention endOfMonth day =
      moved_from (advance_base (is_negative length) (nat_abs length) unit endOfMonth day)
      (advanced_of mask closed length unit convention endOfMonth day)
