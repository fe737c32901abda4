-- Document 01, "Calendar": what each public function answers. A date given lies in the book (2), then the calendar is checked (3), then the tenor (5).
-- Assumes nothing.
use Rattle.std.specs.Prelude.{ℕ, Bool, true, false, ◌||◌, List, eqb, leb, ℤ, nat_abs}
use Rattle.refusal.specs.Answer.{Answer, given, need, BOOK, CALENDAR, TENOR}
use Rattle.period.specs.Period.{is_negative}
use Rattle.period.specs.declared.Unit.{Unit}
use Rattle.period.specs.declared.Unit.TheVariants.{Days, Weeks, Months, Years}
use Rattle.date.specs.Date.{in_book}
use Rattle.calendar.specs.declared.Convention.{Convention}
use Rattle.calendar.specs.Open.{is_open_day, calendar_ok}
use Rattle.calendar.specs.Adjust.{adjusted, last_open, at_month_end, advanced}

-- ---- the public functions
unfoldable pub check_of : ℕ → List ℕ → Answer (Prim.Unit {0})
check_of mask closed = need CALENDAR (calendar_ok mask closed) (given tt)

unfoldable pub is_open_of : ℕ → List ℕ → ℕ → Answer Bool
is_open_of mask closed day =
    need BOOK (in_book day) (need CALENDAR (calendar_ok mask closed) (given (is_open_day mask closed day)))

unfoldable pub adjust_of : ℕ → List ℕ → Convention → ℕ → Answer ℕ
adjust_of mask closed convention day =
    need BOOK (in_book day) (need CALENDAR (calendar_ok mask closed) (adjusted mask closed convention day))

unfoldable pub last_open_of : ℕ → List ℕ → ℕ → Answer ℕ
last_open_of mask closed day = need BOOK (in_book day) (need CALENDAR (calendar_ok mask closed) (last_open mask closed day))

-- the empty date is not at month end
unfoldable pub unless_empty : Bool → ℕ → List ℕ → ℕ → Answer Bool
unless_empty true mask closed day = given false
unless_empty false mask closed day = at_month_end mask closed day

unfoldable pub is_month_end_of : ℕ → List ℕ → ℕ → Answer Bool
is_month_end_of mask closed day =
    need BOOK (eqb day 0 || in_book day) (need CALENDAR (calendar_ok mask closed) (unless_empty (eqb day 0) mask closed day))

unfoldable pub longest : Unit → ℕ
longest Days = 366
longest Weeks = 520
longest Months = 1200
longest Years = 100

unfoldable pub tenor_ok : ℕ → Unit → Bool
tenor_ok size unit = leb size (longest unit)

unfoldable pub advanced_of : ℕ → List ℕ → ℤ → Unit → Convention → Bool → ℕ → Answer ℕ
advanced_of mask closed length unit convention endOfMonth day =
    need BOOK (in_book day)
    (need CALENDAR (calendar_ok mask closed)
    (need TENOR (tenor_ok (nat_abs length) unit)
    (advanced mask closed (is_negative length) (nat_abs length) unit convention endOfMonth day)))
