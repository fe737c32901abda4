-- Worked days: one list and one claim, checked by computing.
-- Assumes nothing.
use Rattle.std.specs.Prelude.{ℕ, zero, suc, ◌+◌, ◌≡◌, refl, Bool, true, false, List, [], ◌∷◌, ℤ, pos, negsuc}
use Rattle.refusal.specs.Answer.{Answer, given, refused, need, then, BOOK, CALENDAR, TENOR, CLOSED}
use Rattle.period.specs.declared.Unit.TheVariants.{Days, Weeks, Months, Years}
use Rattle.date.specs.Civil.{leap, row_of, month_length, gone, sum_to, day_number, guess, years_gone, month_in, day_in, place_of, fields_at}
use Rattle.date.specs.Date.{in_book, within_span, make_of, last_of_month, month_index, in_month, step, shift_days, shift_months, shifted}
use Rattle.calendar.specs.declared.Convention.TheVariants.{Unadjusted, Following, ModifiedFollowing, Preceding, ModifiedPreceding}
use Rattle.calendar.specs.Open.{weekly_closed, member, is_open_day, ascending, closed_ok, calendar_ok}
use Rattle.calendar.specs.AnyCalendar as any
use Rattle.calendar.specs.Adjust.{in_span, same_month, taken_or, unless_left, towards}
use Rattle.calendar.specs.Calendar.{check_of, is_open_of, adjust_of, last_open_of, unless_empty, is_month_end_of, longest, tenor_ok, advanced_of}
use Rattle.calendar.specs.Moves.{moved_from, land_base, months_base, advance_base, adjust_move_of, last_open_move_of, advance_move_of}

-- 1 for yes and for a sound calendar, 0 for no
unfoldable told : Answer Bool → Answer ℕ
told (given true) = given 1
told (given false) = given 0
told (refused n) = refused n

unfoldable passed : Answer (Prim.Unit {0}) → Answer ℕ
passed (given tt) = given 1
passed (refused n) = refused n

-- ---- the calendars of the list
abbrev weekends : ℕ
weekends = 96

abbrev only_sundays : ℕ
only_sundays = 63

-- as many days as said, from a day on
unfoldable run : ℕ → ℕ → List ℕ
run zero day = []
run (suc n) day = day ∷ run n (day + 1)

abbrev four_sundays : List ℕ
four_sundays = day_number 2025 3 9 ∷ day_number 2025 3 16 ∷ day_number 2025 3 23 ∷ day_number 2025 3 30 ∷ []

-- the thirty-one days from 2025-03-01, and the first thirty of them
abbrev march : List ℕ
march = run 31 (day_number 2025 3 1)

abbrev thirty : List ℕ
thirty = run 30 (day_number 2025 3 1)

data Row : Type 0 where
  row : Answer ℕ → Answer ℕ → Row

unfoldable lefts : List Row → List (Answer ℕ)
lefts [] = []
lefts (row a b ∷ rs) = a ∷ lefts rs

unfoldable rights : List Row → List (Answer ℕ)
rights [] = []
rights (row a b ∷ rs) = b ∷ rights rs

-- what is asked, and what is answered
abbrev rows : List Row
rows =
    -- document 01: 2025-05-31, a Saturday, weekends closed
    row (adjust_of weekends [] Unadjusted (day_number 2025 5 31)) (given (day_number 2025 5 31)) ∷
    row (adjust_of weekends [] Following (day_number 2025 5 31)) (given (day_number 2025 6 2)) ∷
    row (adjust_of weekends [] ModifiedFollowing (day_number 2025 5 31)) (given (day_number 2025 5 30)) ∷
    row (adjust_of weekends [] Preceding (day_number 2025 5 31)) (given (day_number 2025 5 30)) ∷
    row (adjust_of weekends [] ModifiedPreceding (day_number 2025 5 31)) (given (day_number 2025 5 30)) ∷
    -- the mirror: 2025-11-01, a Saturday
    row (adjust_of weekends [] Following (day_number 2025 11 1)) (given (day_number 2025 11 3)) ∷
    row (adjust_of weekends [] ModifiedFollowing (day_number 2025 11 1)) (given (day_number 2025 11 3)) ∷
    row (adjust_of weekends [] Preceding (day_number 2025 11 1)) (given (day_number 2025 10 31)) ∷
    row (adjust_of weekends [] ModifiedPreceding (day_number 2025 11 1)) (given (day_number 2025 11 3)) ∷
    -- the null calendar, and a mask's top bit, which says nothing
    row (adjust_of 0 [] Following (day_number 2025 5 31)) (given (day_number 2025 5 31)) ∷
    row (adjust_of 128 [] ModifiedPreceding (day_number 2025 5 31)) (given (day_number 2025 5 31)) ∷
    -- the first search is called for, and the second not tried: only Sundays open, the next four closed
    row (adjust_of only_sundays four_sundays ModifiedFollowing (day_number 2025 3 3)) (refused CLOSED) ∷
    row (adjust_of only_sundays four_sundays Preceding (day_number 2025 3 3)) (given (day_number 2025 3 2)) ∷
    -- thirty-one closed days ahead and behind, and thirty of them
    row (adjust_of 0 march Following (day_number 2025 3 1)) (refused CLOSED) ∷
    row (adjust_of 0 march Following (day_number 2025 3 2)) (given (day_number 2025 4 1)) ∷
    row (adjust_of 0 march Preceding (day_number 2025 3 31)) (refused CLOSED) ∷
    row (adjust_of 0 march Preceding (day_number 2025 3 30)) (given (day_number 2025 2 28)) ∷
    row (adjust_of 0 thirty Following (day_number 2025 3 1)) (given (day_number 2025 3 31)) ∷
    row (adjust_of 0 thirty ModifiedPreceding (day_number 2025 3 30)) (given (day_number 2025 3 31)) ∷
    -- the book first, then the calendar
    row (adjust_of 127 [] Following 0) (refused BOOK) ∷
    row (adjust_of 127 [] Following 693960) (refused BOOK) ∷
    row (adjust_of 127 [] Following 803169) (refused BOOK) ∷
    row (adjust_of 127 [] Following 803168) (refused CALENDAR) ∷
    -- a list that breaks its rule: equal, descending, before 1800, after 2399
    row (passed (check_of weekends [])) (given 1) ∷
    row (passed (check_of weekends (657072 ∷ 657073 ∷ 876216 ∷ []))) (given 1) ∷
    row (passed (check_of weekends (657073 ∷ 657073 ∷ []))) (refused CALENDAR) ∷
    row (passed (check_of weekends (657074 ∷ 657073 ∷ []))) (refused CALENDAR) ∷
    row (passed (check_of weekends (657071 ∷ []))) (refused CALENDAR) ∷
    row (passed (check_of weekends (876217 ∷ []))) (refused CALENDAR) ∷
    row (passed (check_of 126 [])) (given 1) ∷
    row (passed (check_of 127 [])) (refused CALENDAR) ∷
    row (passed (check_of 255 [])) (refused CALENDAR) ∷
    row (passed (check_of 254 [])) (given 1) ∷
    -- open days
    row (told (is_open_of weekends [] (day_number 2025 5 30))) (given 1) ∷
    row (told (is_open_of weekends [] (day_number 2025 5 31))) (given 0) ∷
    row (told (is_open_of weekends ((day_number 2025 5 30) ∷ []) (day_number 2025 5 30))) (given 0) ∷
    row (told (is_open_of weekends ((day_number 2025 5 30) ∷ []) (day_number 2025 5 29))) (given 1) ∷
    -- month ends, and the days that are at month end
    row (last_open_of weekends [] (day_number 2025 5 1)) (given (day_number 2025 5 30)) ∷
    row (last_open_of weekends [] (day_number 2025 8 31)) (given (day_number 2025 8 29)) ∷
    row (last_open_of weekends [] (day_number 2024 2 3)) (given (day_number 2024 2 29)) ∷
    row (last_open_of 0 march (day_number 2025 3 5)) (refused CLOSED) ∷
    row (told (is_month_end_of weekends [] (day_number 2025 5 29))) (given 0) ∷
    row (told (is_month_end_of weekends [] (day_number 2025 5 30))) (given 1) ∷
    row (told (is_month_end_of weekends [] (day_number 2025 5 31))) (given 1) ∷
    row (told (is_month_end_of weekends [] (day_number 2025 6 1))) (given 0) ∷
    row (told (is_month_end_of 0 march (day_number 2025 2 28))) (refused CLOSED) ∷
    row (told (is_month_end_of 0 march (day_number 2025 2 27))) (given 0) ∷
    row (told (is_month_end_of weekends [] 0)) (given 0) ∷
    row (told (is_month_end_of 127 [] 0)) (refused CALENDAR) ∷
    row (told (is_month_end_of 127 [] 1)) (refused BOOK) ∷
    -- advance by 0: days leave the date, weeks adjust, months and years adjust or give the month end
    row (advanced_of weekends [] (pos 0) Days Following false (day_number 2025 5 31)) (given (day_number 2025 5 31)) ∷
    row (advanced_of weekends [] (pos 0) Weeks Following true (day_number 2025 5 31)) (given (day_number 2025 6 2)) ∷
    row (advanced_of weekends [] (pos 0) Months Following false (day_number 2025 5 31)) (given (day_number 2025 6 2)) ∷
    row (advanced_of weekends [] (pos 0) Months Following true (day_number 2025 5 31)) (given (day_number 2025 5 30)) ∷
    row (advanced_of weekends [] (pos 0) Years Following true (day_number 2025 5 31)) (given (day_number 2025 5 30)) ∷
    -- advance by open days, weeks, months and years
    row (advanced_of weekends [] (pos 1) Days Unadjusted false (day_number 2025 5 30)) (given (day_number 2025 6 2)) ∷
    row (advanced_of weekends [] (negsuc 0) Days Unadjusted false (day_number 2025 6 1)) (given (day_number 2025 5 30)) ∷
    row (advanced_of weekends [] (pos 5) Days Unadjusted false (day_number 2025 5 30)) (given (day_number 2025 6 6)) ∷
    row (advanced_of 0 march (pos 1) Days Unadjusted false (day_number 2025 2 28)) (refused CLOSED) ∷
    row (advanced_of 0 march (negsuc 0) Days Unadjusted false (day_number 2025 4 1)) (refused CLOSED) ∷
    row (advanced_of weekends [] (pos 1) Weeks Following true (day_number 2025 5 31)) (given (day_number 2025 6 9)) ∷
    row (advanced_of weekends [] (negsuc 0) Weeks Preceding false (day_number 2025 5 31)) (given (day_number 2025 5 23)) ∷
    row (advanced_of weekends [] (pos 1) Months Unadjusted false (day_number 2025 1 31)) (given (day_number 2025 2 28)) ∷
    row (advanced_of weekends [] (negsuc 2) Months Unadjusted false (day_number 2025 5 30)) (given (day_number 2025 2 28)) ∷
    row (advanced_of weekends [] (pos 3) Months Unadjusted false (day_number 2025 5 30)) (given (day_number 2025 8 30)) ∷
    row (advanced_of weekends [] (pos 3) Months Unadjusted true (day_number 2025 5 30)) (given (day_number 2025 8 29)) ∷
    row (advanced_of weekends [] (pos 1) Years ModifiedFollowing false (day_number 2025 5 31)) (given (day_number 2026 5 29)) ∷
    row (advanced_of weekends [] (negsuc 0) Years ModifiedFollowing true (day_number 2025 5 30)) (given (day_number 2024 5 31)) ∷
    -- lengths over the limits, in either sign
    row (advanced_of weekends [] (pos 367) Days Following false (day_number 2025 5 31)) (refused TENOR) ∷
    row (advanced_of weekends [] (negsuc 366) Days Following false (day_number 2025 5 31)) (refused TENOR) ∷
    row (advanced_of weekends [] (pos 521) Weeks Following false (day_number 2025 5 31)) (refused TENOR) ∷
    row (advanced_of weekends [] (negsuc 520) Weeks Following false (day_number 2025 5 31)) (refused TENOR) ∷
    row (advanced_of weekends [] (pos 1201) Months Following false (day_number 2025 5 31)) (refused TENOR) ∷
    row (advanced_of weekends [] (negsuc 1200) Months Following false (day_number 2025 5 31)) (refused TENOR) ∷
    row (advanced_of weekends [] (pos 101) Years Following false (day_number 2025 5 31)) (refused TENOR) ∷
    row (advanced_of weekends [] (negsuc 100) Years Following false (day_number 2025 5 31)) (refused TENOR) ∷
    row (advanced_of weekends [] (negsuc 2147483647) Years Following false (day_number 2025 5 31)) (refused TENOR) ∷
    row (advanced_of 127 [] (pos 101) Years Following false (day_number 2025 5 31)) (refused CALENDAR) ∷
    row (advanced_of 0 [] (pos 100) Years Following false (day_number 2199 12 31)) (given (day_number 2299 12 31)) ∷
    row (advanced_of 0 [] (negsuc 1199) Months Following false (day_number 1901 1 1)) (given (day_number 1801 1 1)) ∷
    row (advanced_of 0 [] (negsuc 519) Weeks Following false (day_number 2025 1 1)) (given (day_number 2015 1 14)) ∷
    row (advanced_of 0 [] (pos 366) Days Following false (day_number 2025 1 1)) (given (day_number 2026 1 2)) ∷
    []

worked : lefts rows ≡ rights rows
unfolding lefts rights told passed run need then leap row_of month_length gone sum_to day_number guess years_gone month_in day_in place_of fields_at in_book within_span make_of last_of_month month_index in_month step shift_days shift_months shifted weekly_closed member is_open_day ascending closed_ok calendar_ok in_span taken_or any.first_open any.found same_month unless_left any.modified any.by_convention any.adjusted any.last_open any.at_month_end towards any.open_steps any.end_asked any.landed any.add_months any.add_weeks any.by_unit any.advanced check_of is_open_of adjust_of last_open_of unless_empty is_month_end_of longest tenor_ok advanced_of
worked = refl

-- ---- how far dates moved (change request L8): the date and the days, weekends closed
data MoveRow : Type 0 where
  goes : Answer (ℕ × ℤ) → (date : ℕ) → (days : ℤ) → MoveRow

unfoldable asked : List MoveRow → List (Answer (ℕ × ℤ))
asked [] = []
asked (goes a date days ∷ rs) = a ∷ asked rs

unfoldable answers : List MoveRow → List (Answer (ℕ × ℤ))
answers [] = []
answers (goes a date days ∷ rs) = given (date, days) ∷ answers rs

abbrev moves : List MoveRow
moves =
    -- 2025-05-31, a Saturday; a Modified convention has the move of the date that it answers
    goes (adjust_move_of weekends [] Unadjusted (day_number 2025 5 31)) (day_number 2025 5 31) (pos 0) ∷
    goes (adjust_move_of weekends [] Following (day_number 2025 5 31)) (day_number 2025 6 2) (pos 2) ∷
    goes (adjust_move_of weekends [] ModifiedFollowing (day_number 2025 5 31)) (day_number 2025 5 30) (negsuc 0) ∷
    goes (adjust_move_of weekends [] Preceding (day_number 2025 5 31)) (day_number 2025 5 30) (negsuc 0) ∷
    goes (adjust_move_of weekends [] ModifiedPreceding (day_number 2025 5 31)) (day_number 2025 5 30) (negsuc 0) ∷
    goes (adjust_move_of weekends [] Following (day_number 2025 5 30)) (day_number 2025 5 30) (pos 0) ∷
    -- thirty days, the most
    goes (adjust_move_of 0 march Following (day_number 2025 3 2)) (day_number 2025 4 1) (pos 30) ∷
    goes (adjust_move_of 0 march Preceding (day_number 2025 3 30)) (day_number 2025 2 28) (negsuc 29) ∷
    -- a month end moves from the month's last day
    goes (last_open_move_of weekends [] (day_number 2025 5 15)) (day_number 2025 5 30) (negsuc 0) ∷
    goes (last_open_move_of weekends [] (day_number 2025 6 1)) (day_number 2025 6 30) (pos 0) ∷
    -- weeks, months and years from the sum, or from its month's last day where the month end is given
    goes (advance_move_of weekends [] (pos 1) Weeks Following false (day_number 2025 5 24)) (day_number 2025 6 2) (pos 2) ∷
    goes (advance_move_of weekends [] (pos 1) Months Following true (day_number 2025 2 28)) (day_number 2025 3 31) (pos 0) ∷
    goes (advance_move_of weekends [] (pos 3) Months Unadjusted true (day_number 2025 5 30)) (day_number 2025 8 29) (negsuc 1) ∷
    goes (advance_move_of weekends [] (pos 1) Years ModifiedFollowing false (day_number 2025 5 31)) (day_number 2026 5 29) (negsuc 1) ∷
    -- open days from the start and as many natural days
    goes (advance_move_of weekends [] (pos 2) Days Following false (day_number 2025 5 30)) (day_number 2025 6 3) (pos 2) ∷
    goes (advance_move_of weekends [] (negsuc 0) Days Following false (day_number 2025 6 2)) (day_number 2025 5 30) (negsuc 1) ∷
    goes (advance_move_of weekends [] (pos 0) Days Following false (day_number 2025 5 31)) (day_number 2025 5 31) (pos 0) ∷
    []

worked_moves : asked moves ≡ answers moves
unfolding asked answers run need then leap row_of month_length gone sum_to day_number guess years_gone month_in day_in place_of fields_at in_book within_span make_of last_of_month month_index in_month step shift_days shift_months shifted weekly_closed member is_open_day ascending closed_ok calendar_ok in_span taken_or any.first_open any.found same_month unless_left any.modified any.by_convention any.adjusted any.last_open any.at_month_end towards any.open_steps any.end_asked any.landed any.add_months any.add_weeks any.by_unit any.advanced adjust_of last_open_of longest tenor_ok advanced_of moved_from land_base months_base advance_base adjust_move_of last_open_move_of advance_move_of
worked_moves = refl
