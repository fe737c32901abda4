-- Request L6: a desk's closed dates over the house's, year by year.
-- Assumes nothing.
use Rattle.std.specs.Prelude.{ℕ, Bool, true, false, ◌&&◌, ◌≡◌, List, [], ◌∷◌, ◌++◌, eqb, leb, ltb, length, drop, ℤ}
use Rattle.refusal.specs.Answer.{Answer, given, refused, need, BOOK, CALENDAR, ROOM, FULL}
use Rattle.date.specs.Civil.{fields_of}
use Rattle.date.specs.Date.{in_book}
use Rattle.calendar.specs.declared.Convention.{Convention}
use Rattle.calendar.specs.Open.{is_open_day, closed_ok, calendar_ok}
use Rattle.calendar.specs.Moves.{moved_from}
use Rattle.calendar.specs.AnyCalendar as any

unfoldable pub year_of : (day : ℕ) → ℕ
year_of day = (fields_of day).year

unfoldable pub kept : Bool → (x : ℕ) (rest : List ℕ) → List ℕ
kept true x rest = x ∷ rest
kept false x rest = rest

-- the entries of a list that lie in a year, in their order
unfoldable pub entries_in : (year : ℕ) (list : List ℕ) → List ℕ
entries_in year [] = []
entries_in year (x ∷ xs) = kept (eqb (year_of x) year) x (entries_in year xs)

-- the first list, or the second where the first has nothing
unfoldable pub or_else : (list other : List ℕ) → List ℕ
or_else [] other = other
or_else (x ∷ xs) other = x ∷ xs

-- the run of a year: the desk's entries if it has any there, otherwise the house's
unfoldable pub run_of : (desk house : List ℕ) (year : ℕ) → List ℕ
run_of desk house year = or_else (entries_in year desk) (entries_in year house)

-- ---- the question and the lookup: 3 for either list, then 2 for the year
unfoldable pub in_years : (year : ℕ) → Bool
in_years year = leb 1800 year && leb year 2399

unfoldable pub asked_of : (desk house : List ℕ) (year : ℕ) → Answer (Prim.Unit {0})
asked_of desk house year = need CALENDAR (closed_ok desk && closed_ok house) (need BOOK (in_years year) (given tt))

unfoldable pub handed_over : Answer (Prim.Unit {0}) → (run : List ℕ) → List ℕ
handed_over (given ok) run = run
handed_over (refused n) run = []

unfoldable pub lookup_of : (desk house : List ℕ) (year : ℕ) → List ℕ
lookup_of desk house year = handed_over (asked_of desk house year) (run_of desk house year)

-- ---- the adjustment: each day is open or closed by the run of its own year
unfoldable pub opens_over : (mask : ℕ) (desk house : List ℕ) (day : ℕ) → Bool
opens_over mask desk house day = is_open_day mask (run_of desk house (year_of day)) day

unfoldable pub calendars_ok : (mask : ℕ) (desk house : List ℕ) → Bool
calendars_ok mask desk house = calendar_ok mask desk && closed_ok house

unfoldable pub adjust_over_of : (mask : ℕ) (desk house : List ℕ) → Convention → (day : ℕ) → Answer ℕ
adjust_over_of mask desk house convention day =
    need BOOK (in_book day)
    (need CALENDAR (calendars_ok mask desk house) (any.adjusted (opens_over mask desk house) convention day))

-- how far it moved (change request L8), from the day given
unfoldable pub adjust_over_move_of : (mask : ℕ) (desk house : List ℕ) → Convention → (day : ℕ) → Answer (ℕ × ℤ)
adjust_over_move_of mask desk house convention day = moved_from (given day) (adjust_over_of mask desk house convention day)

-- ---- the combined list: the desk's entries, and the house's whose year has none of the desk's, ascending
unfoldable pub has_none : (list : List ℕ) → Bool
has_none [] = true
has_none (x ∷ xs) = false

unfoldable pub left_to : (desk : List ℕ) (day : ℕ) → Bool
left_to desk day = has_none (entries_in (year_of day) desk)

unfoldable pub before : Bool → (x y : ℕ) (ys rest : List ℕ) → List ℕ
before true x y ys rest = x ∷ y ∷ ys
before false x y ys rest = y ∷ rest

-- the day put at its place in an ascending list
unfoldable pub put : (day : ℕ) (list : List ℕ) → List ℕ
put day [] = day ∷ []
put day (y ∷ ys) = before (ltb day y) day y ys (put day ys)

unfoldable pub put_if : Bool → (day : ℕ) (list : List ℕ) → List ℕ
put_if true day list = put day list
put_if false day list = list

unfoldable pub combined : (desk house : List ℕ) → List ℕ
combined desk [] = desk
combined desk (x ∷ xs) = put_if (left_to desk x) x (combined desk xs)

-- ---- the combined list in a lent list: 3 for either list, then 23 for more than 4,096 entries, then 14 where the lent list is shorter
unfoldable pub combine_of : (desk house : List ℕ) (room : ℕ) → Answer ℕ
combine_of desk house room =
    need CALENDAR (closed_ok desk && closed_ok house)
    (need FULL (leb (length (combined desk house)) 4096)
    (need ROOM (leb (length (combined desk house)) room) (given (length (combined desk house)))))

-- its entries over the start of the lent list, later places as before; a refusal leaves all of it as it was
unfoldable pub lent_after : Answer ℕ → (list lent : List ℕ) → List ℕ
lent_after (given n) list lent = list ++ drop n lent
lent_after (refused n) list lent = lent

pub record Combines (desk house : List ℕ) (r : Answer ℕ) (lent lent' : List ℕ) : Type 0 where
  pub says : r ≡ combine_of desk house (length lent)
  pub writes : lent' ≡ lent_after (combine_of desk house (length lent)) (combined desk house) lent
