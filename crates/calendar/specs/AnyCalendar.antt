-- Document 01, "Calendar": the search for an open day, the five conventions, month ends and advance, for days from 1800 to 2399.
-- Said of any calendar: `opens` tells which days are open.
-- Assumes nothing.
use Rattle.std.specs.Prelude.{ℕ, zero, suc, ◌+◌, Bool, true, false, not, ◌&&◌, eqb, leb}
use Rattle.refusal.specs.Answer.{Answer, given, refused, need, then, BOOK, CLOSED}
use Rattle.period.specs.declared.Unit.{Unit}
use Rattle.period.specs.declared.Unit.TheVariants.{Days, Weeks, Months, Years}
use Rattle.date.specs.Date.{SPAN_FIRST, SPAN_LAST, step, within_span, month_index, last_of_month, shifted}
use Rattle.calendar.specs.declared.Convention.{Convention}
use Rattle.calendar.specs.declared.Convention.TheVariants.{Unadjusted, Following, ModifiedFollowing, Preceding, ModifiedPreceding}

unfoldable pub in_span : (day : ℕ) → Bool
in_span day = leb SPAN_FIRST day && leb day SPAN_LAST

unfoldable pub same_month : (a b : ℕ) → Bool
same_month a b = eqb (month_index a) (month_index b)

-- this day, or what comes of passing it over
unfoldable pub taken_or : Bool → (day : ℕ) → (ℕ → Answer ℕ) → Answer ℕ
taken_or true day rest = given day
taken_or false day rest = rest day

-- the day found, or another search where that left the month
unfoldable pub unless_left : Bool → (day new : ℕ) → (ℕ → Answer ℕ) → Answer ℕ
unless_left true day new other = given new
unless_left false day new other = other day

unfoldable pub towards : (back : Bool) → Convention
towards false = Following
towards true = Preceding

module _ (opens : ℕ → Bool) where
  -- ---- the search: the first open day of as many as are left to try, from `day` on, or back
  unfoldable pub first_open : (back : Bool) (left day : ℕ) → Answer ℕ
  first_open back zero day = refused CLOSED
  first_open back (suc left) day = taken_or (opens day) day (λ passed. first_open back left (step back passed 1))

  unfoldable pub found : (back : Bool) (day : ℕ) → Answer ℕ
  found back day = then (first_open back 31 day) within_span

  -- ---- the conventions
  unfoldable pub modified : (back : Bool) (day : ℕ) → Answer ℕ
  modified back day = then (found back day) (λ new. unless_left (same_month day new) day new (found (not back)))

  unfoldable pub by_convention : Convention → (day : ℕ) → Answer ℕ
  by_convention Unadjusted day = given day
  by_convention Following day = found false day
  by_convention ModifiedFollowing day = modified false day
  by_convention Preceding day = found true day
  by_convention ModifiedPreceding day = modified true day

  unfoldable pub adjusted : Convention → (day : ℕ) → Answer ℕ
  adjusted convention day = need BOOK (in_span day) (by_convention convention day)

  -- ---- month ends
  unfoldable pub last_open : (day : ℕ) → Answer ℕ
  last_open day = then (last_of_month day) (adjusted Preceding)

  unfoldable pub at_month_end : (day : ℕ) → Answer Bool
  at_month_end day = need BOOK (in_span day) (then (adjusted Following (day + 1)) (λ next. given (not (same_month day next))))

  -- ---- advance: open days one by one, each found from the neighbouring day
  unfoldable pub open_steps : (back : Bool) (size day : ℕ) → Answer ℕ
  open_steps back zero day = given day
  open_steps back (suc size) day = then (adjusted (towards back) (step back day 1)) (open_steps back size)

  unfoldable pub end_asked : (endOfMonth : Bool) (day : ℕ) → Answer Bool
  end_asked false day = given false
  end_asked true day = at_month_end day

  unfoldable pub landed : Convention → (moved : ℕ) (at_end : Bool) → Answer ℕ
  landed convention moved true = last_open moved
  landed convention moved false = adjusted convention moved

  unfoldable pub add_months : (back : Bool) (size : ℕ) → Unit → Convention → (endOfMonth : Bool) (day : ℕ) → Answer ℕ
  add_months back size unit convention endOfMonth day =
      then (shifted day back size unit) (λ moved. then (end_asked endOfMonth day) (landed convention moved))

  unfoldable pub add_weeks : (back : Bool) (size : ℕ) → Convention → (day : ℕ) → Answer ℕ
  add_weeks back size convention day = then (shifted day back size Weeks) (adjusted convention)

  unfoldable pub by_unit : (back : Bool) (size : ℕ) → Unit → Convention → (endOfMonth : Bool) (day : ℕ) → Answer ℕ
  by_unit back size Days convention endOfMonth day = open_steps back size day
  by_unit back size Weeks convention endOfMonth day = add_weeks back size convention day
  by_unit back size Months convention endOfMonth day = add_months back size Months convention endOfMonth day
  by_unit back size Years convention endOfMonth day = add_months back size Years convention endOfMonth day

  unfoldable pub advanced : (back : Bool) (size : ℕ) → Unit → Convention → (endOfMonth : Bool) (day : ℕ) → Answer ℕ
  advanced back size unit convention endOfMonth day =
      need BOOK (in_span day) (by_unit back size unit convention endOfMonth day)
