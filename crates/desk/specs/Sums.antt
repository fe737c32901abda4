-- Worked answers of request L6, checked by computing. The house closes 2025-12-25, 12-26, 2026-01-01 and 01-02; weekends are closed by the mask.
-- Assumes nothing.
use Rattle.std.specs.Prelude.{ℕ, zero, suc, ◌+◌, ◌≡◌, refl, List, [], ◌∷◌, pos}
use Rattle.refusal.specs.Answer.{Answer, given, refused, need, then, BOOK, CALENDAR, CLOSED, ROOM}
use Rattle.date.specs.Civil.{leap, row_of, gone, sum_to, day_number, guess, years_gone, month_in, day_in, place_of, fields_at}
use Rattle.date.specs.Date.{in_book, within_span, month_index, step}
use Rattle.calendar.specs.declared.Convention.TheVariants.{Unadjusted, Following, Preceding, ModifiedPreceding}
use Rattle.calendar.specs.Open.{weekly_closed, member, is_open_day, ascending, closed_ok, calendar_ok}
use Rattle.calendar.specs.Moves.{moved_from}
use Rattle.calendar.specs.AnyCalendar.{in_span, same_month, taken_or, unless_left, first_open, found, modified, by_convention, adjusted}
use Rattle.desk.specs.Desk.{year_of, kept, entries_in, or_else, run_of, in_years, asked_of, handed_over, lookup_of, opens_over, calendars_ok, adjust_over_of, adjust_over_move_of, has_none, left_to, before, put, put_if, combined, combine_of, lent_after}

unfoldable asked : Answer (Prim.Unit {0}) → ℕ
asked (given ok) = 0
asked (refused n) = n

abbrev house : List ℕ
house = day_number 2025 12 25 ∷ day_number 2025 12 26 ∷ day_number 2026 1 1 ∷ day_number 2026 1 2 ∷ []

abbrev christmas : ℕ
christmas = day_number 2025 12 25

-- as many days as said, from a day on
unfoldable days : ℕ → ℕ → List ℕ
days zero day = []
days (suc n) day = day ∷ days n (day + 1)

-- ---- runs: the desk's, the house's, neither, and empty on a refusal
abbrev runs : List (List ℕ)
runs =
    lookup_of (christmas ∷ []) house 2025 ∷
    lookup_of (christmas ∷ []) house 2026 ∷
    lookup_of (christmas ∷ []) house 2024 ∷
    lookup_of [] (5 ∷ []) 2025 ∷
    lookup_of (christmas ∷ []) house 1799 ∷
    combined (christmas ∷ []) house ∷
    []

abbrev runs_are : List (List ℕ)
runs_are =
    (christmas ∷ []) ∷
    (day_number 2026 1 1 ∷ day_number 2026 1 2 ∷ []) ∷
    [] ∷
    [] ∷
    [] ∷
    (christmas ∷ day_number 2026 1 1 ∷ day_number 2026 1 2 ∷ []) ∷
    []

worked_runs : runs ≡ runs_are
unfolding need leap row_of gone sum_to day_number guess years_gone month_in day_in place_of fields_at ascending closed_ok year_of kept entries_in or_else run_of in_years asked_of handed_over lookup_of has_none left_to before put put_if combined
worked_runs = refl

-- ---- the question: 0, then 3 before 2
abbrev numbers : List ℕ
numbers =
    asked (asked_of (christmas ∷ []) house 2025) ∷
    asked (asked_of [] (5 ∷ []) 2025) ∷
    asked (asked_of (5 ∷ []) [] 1799) ∷
    asked (asked_of [] [] 1799) ∷
    asked (asked_of [] [] 1800) ∷
    asked (asked_of [] [] 2399) ∷
    asked (asked_of [] [] 2400) ∷
    []

worked_numbers : numbers ≡ 0 ∷ 3 ∷ 3 ∷ 2 ∷ 0 ∷ 0 ∷ 2 ∷ []
unfolding need leap row_of gone sum_to day_number guess years_gone month_in day_in place_of fields_at ascending closed_ok in_years asked_of asked
worked_numbers = refl

-- ---- the adjustment: each day by its own year, over a year's end, and the order of the refusals
abbrev answers : List (Answer ℕ)
answers =
    adjust_over_of 96 (christmas ∷ []) house Following christmas ∷
    adjust_over_of 96 (day_number 2026 1 1 ∷ []) house Following christmas ∷
    adjust_over_of 96 (day_number 2025 12 31 ∷ []) house Following (day_number 2025 12 31) ∷
    adjust_over_of 96 (day_number 2025 12 28 ∷ []) house Following christmas ∷
    adjust_over_of 96 (day_number 2026 1 1 ∷ []) house Preceding (day_number 2026 1 1) ∷
    adjust_over_of 96 (christmas ∷ []) house ModifiedPreceding (day_number 2026 1 1) ∷
    adjust_over_of 0 (days 16 (day_number 2025 12 16)) (days 15 (day_number 2026 1 1)) Following (day_number 2025 12 16) ∷
    adjust_over_of 0 (days 16 (day_number 2025 12 16)) (days 14 (day_number 2026 1 1)) Following (day_number 2025 12 16) ∷
    adjust_over_of 0 [] (5 ∷ []) Following 0 ∷
    adjust_over_of 96 (5 ∷ []) [] Unadjusted christmas ∷
    adjust_over_of 127 [] house Following christmas ∷
    adjust_over_of 96 (christmas ∷ []) house Unadjusted christmas ∷
    []

abbrev answers_are : List (Answer ℕ)
answers_are =
    given (day_number 2025 12 26) ∷
    given (day_number 2025 12 29) ∷
    given (day_number 2026 1 5) ∷
    given christmas ∷
    given (day_number 2025 12 31) ∷
    given (day_number 2026 1 5) ∷
    refused CLOSED ∷
    given (day_number 2026 1 15) ∷
    refused BOOK ∷
    refused CALENDAR ∷
    refused CALENDAR ∷
    given christmas ∷
    []

worked_answers : answers ≡ answers_are
unfolding need then leap row_of gone sum_to day_number guess years_gone month_in day_in place_of fields_at in_book within_span month_index step weekly_closed member is_open_day ascending closed_ok calendar_ok in_span same_month taken_or unless_left first_open found modified by_convention adjusted year_of kept entries_in or_else run_of opens_over calendars_ok adjust_over_of days
worked_answers = refl

-- ---- how far it moved, over a year's end
worked_move : adjust_over_move_of 96 (day_number 2025 12 31 ∷ []) house Following (day_number 2025 12 31) ≡ given (day_number 2026 1 5, pos 5)
unfolding need then leap row_of gone sum_to day_number guess years_gone month_in day_in place_of fields_at in_book within_span month_index step weekly_closed member is_open_day ascending closed_ok calendar_ok in_span same_month taken_or unless_left first_open found modified by_convention adjusted year_of kept entries_in or_else run_of opens_over calendars_ok adjust_over_of adjust_over_move_of moved_from days
worked_move = refl

-- ---- the combined list in a lent list of so many places, which hold their own numbers from 1 on
abbrev told : (desk house : List ℕ) (room : ℕ) → Answer ℕ
told desk house room = combine_of desk house room

abbrev left : (desk house : List ℕ) (room : ℕ) → List ℕ
left desk house room = lent_after (combine_of desk house room) (combined desk house) (days room 1)

abbrev counts : List (Answer ℕ)
counts =
    told (christmas ∷ []) house 5 ∷
    told (christmas ∷ []) house 3 ∷
    told (christmas ∷ []) house 2 ∷
    told [] house 4 ∷
    told house [] 4 ∷
    told [] [] 0 ∷
    told (5 ∷ []) house 0 ∷
    told [] (5 ∷ []) 0 ∷
    []

worked_counts : counts ≡ given 3 ∷ given 3 ∷ refused ROOM ∷ given 4 ∷ given 4 ∷ given 0 ∷ refused CALENDAR ∷ refused CALENDAR ∷ []
unfolding need leap row_of gone sum_to day_number guess years_gone month_in day_in place_of fields_at ascending closed_ok year_of kept entries_in has_none left_to before put put_if combined combine_of
worked_counts = refl

-- the last two: entries on both sides of a year's end
abbrev lists : List (List ℕ)
lists =
    left (christmas ∷ []) house 5 ∷
    left (christmas ∷ []) house 2 ∷
    left [] (5 ∷ []) 2 ∷
    left [] house 4 ∷
    left (day_number 2025 12 28 ∷ []) house 4 ∷
    left (day_number 2026 1 2 ∷ []) house 3 ∷
    left (day_number 2025 12 31 ∷ []) (day_number 2024 12 31 ∷ day_number 2025 1 1 ∷ day_number 2025 12 30 ∷ day_number 2026 1 1 ∷ []) 3 ∷
    left (day_number 2025 1 1 ∷ []) (day_number 2024 12 31 ∷ day_number 2025 12 31 ∷ day_number 2026 1 1 ∷ []) 3 ∷
    []

abbrev lists_are : List (List ℕ)
lists_are =
    (christmas ∷ day_number 2026 1 1 ∷ day_number 2026 1 2 ∷ 4 ∷ 5 ∷ []) ∷
    (1 ∷ 2 ∷ []) ∷
    (1 ∷ 2 ∷ []) ∷
    house ∷
    (day_number 2025 12 28 ∷ day_number 2026 1 1 ∷ day_number 2026 1 2 ∷ 4 ∷ []) ∷
    (christmas ∷ day_number 2025 12 26 ∷ day_number 2026 1 2 ∷ []) ∷
    (day_number 2024 12 31 ∷ day_number 2025 12 31 ∷ day_number 2026 1 1 ∷ []) ∷
    (day_number 2024 12 31 ∷ day_number 2025 1 1 ∷ day_number 2026 1 1 ∷ []) ∷
    []

worked_lists : lists ≡ lists_are
unfolding need leap row_of gone sum_to day_number guess years_gone month_in day_in place_of fields_at ascending closed_ok year_of kept entries_in has_none left_to before put put_if combined combine_of lent_after days
worked_lists = refl
