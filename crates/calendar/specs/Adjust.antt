-- Document 01, "Calendar": the conventions and their numbers, and the search, the conventions, month ends and advance on the calendar of a mask
-- and a list of closed dates.
-- Assumes nothing.
use Rattle.std.specs.Prelude.{ℕ, Bool, List, [], ◌∷◌}
use Rattle.refusal.specs.Answer.{Answer}
use Rattle.period.specs.declared.Unit.{Unit}
use Rattle.calendar.specs.declared.Convention.{Convention}
use Rattle.calendar.specs.declared.Convention.TheVariants.{Unadjusted, Following, ModifiedFollowing, Preceding, ModifiedPreceding}
use Rattle.calendar.specs.Open.{is_open_day}
use Rattle.calendar.specs.AnyCalendar as any
unfoldable pub use Rattle.calendar.specs.AnyCalendar.{in_span, same_month, taken_or, unless_left, towards}

-- the conventions in document 01's order, and their numbers, which are their places
unfoldable pub conventions : List Convention
conventions = Unadjusted ∷ Following ∷ ModifiedFollowing ∷ Preceding ∷ ModifiedPreceding ∷ []

unfoldable pub convention_number : Convention → ℕ
convention_number Unadjusted = 0
convention_number Following = 1
convention_number ModifiedFollowing = 2
convention_number Preceding = 3
convention_number ModifiedPreceding = 4

-- ---- the open days are those of the mask and the list
module _ (mask : ℕ) (closed : List ℕ) where
  abbrev pub first_open : (back : Bool) (left day : ℕ) → Answer ℕ
  first_open = any.first_open (is_open_day mask closed)

  abbrev pub found : (back : Bool) (day : ℕ) → Answer ℕ
  found = any.found (is_open_day mask closed)

  abbrev pub modified : (back : Bool) (day : ℕ) → Answer ℕ
  modified = any.modified (is_open_day mask closed)

  abbrev pub by_convention : Convention → (day : ℕ) → Answer ℕ
  by_convention = any.by_convention (is_open_day mask closed)

  abbrev pub adjusted : Convention → (day : ℕ) → Answer ℕ
  adjusted = any.adjusted (is_open_day mask closed)

  abbrev pub last_open : (day : ℕ) → Answer ℕ
  last_open = any.last_open (is_open_day mask closed)

  abbrev pub at_month_end : (day : ℕ) → Answer Bool
  at_month_end = any.at_month_end (is_open_day mask closed)

  abbrev pub open_steps : (back : Bool) (size day : ℕ) → Answer ℕ
  open_steps = any.open_steps (is_open_day mask closed)

  abbrev pub end_asked : (endOfMonth : Bool) (day : ℕ) → Answer Bool
  end_asked = any.end_asked (is_open_day mask closed)

  abbrev pub landed : Convention → (moved : ℕ) (at_end : Bool) → Answer ℕ
  landed = any.landed (is_open_day mask closed)

  abbrev pub add_months : (back : Bool) (size : ℕ) → Unit → Convention → (endOfMonth : Bool) (day : ℕ) → Answer ℕ
  add_months = any.add_months (is_open_day mask closed)

  abbrev pub add_weeks : (back : Bool) (size : ℕ) → Convention → (day : ℕ) → Answer ℕ
  add_weeks = any.add_weeks (is_open_day mask closed)

  abbrev pub by_unit : (back : Bool) (size : ℕ) → Unit → Convention → (endOfMonth : Bool) (day : ℕ) → Answer ℕ
  by_unit = any.by_unit (is_open_day mask closed)

  abbrev pub advanced : (back : Bool) (size : ℕ) → Unit → Convention → (endOfMonth : Bool) (day : ℕ) → Answer ℕ
  advanced = any.advanced (is_open_day mask closed)
