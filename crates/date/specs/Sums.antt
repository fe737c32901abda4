-- Worked dates, computed: one list, one claim.
-- Assumes nothing.
use Rattle.std.specs.Prelude.{ℕ, ◌*◌, ◌+◌, ◌≡◌, refl, List, [], ◌∷◌, pos, negsuc}
use Rattle.refusal.specs.Answer.{Answer, given, refused, need, then}
use Rattle.period.specs.declared.Unit.TheVariants.{Days, Weeks, Months, Years}
use Rattle.date.specs.declared.Fields.{Fields}
use Rattle.date.specs.Civil.{leap, row_of, month_length, gone, guess, years_gone, sum_to, month_in, day_in, place_of, day_number, fields_at, fields_of, weekday_of, days_until}
use Rattle.date.specs.Date.{in_book, within_span, make_of, fields_in, weekday_in, last_of_month, month_end_of, month_index, in_month, step, shift_days, shift_months, shifted, advance_of, next_weekday_of, nth_weekday_of}

-- a date as one number that reads as it is written: 20250131
abbrev written : Fields → ℕ
written f = 10000 * f.year + 100 * f.month + f.day

abbrev shown : Answer Fields → Answer ℕ
shown a = then a (λ f. given (written f))

sums : ◌≡◌ {A = List (Answer ℕ)}
    -- day numbers and their dates: day 1, the ends of the book and of the span, a leap day of a leap century
    (given (day_number 1 1 1) ∷ given (day_number 1901 1 1) ∷ given (day_number 2199 12 31) ∷ given (day_number 1800 1 1) ∷ given (day_number 2399 12 31)
    ∷ given (written (fields_of 1)) ∷ given (written (fields_of 657072)) ∷ given (written (fields_of 876216)) ∷ given (written (fields_of 730179))
    -- leap centuries, months and days that are not there, years outside the span
    ∷ make_of 1900 2 29 ∷ make_of 2000 2 29 ∷ make_of 2100 2 29 ∷ make_of 2025 0 1 ∷ make_of 2025 13 1 ∷ make_of 2025 4 0 ∷ make_of 2025 4 31
    ∷ make_of 1799 12 31 ∷ make_of 2400 1 1
    -- the ends of the book, and beyond
    ∷ shown (fields_in 0) ∷ shown (fields_in 693960) ∷ shown (fields_in 693961) ∷ shown (fields_in 803168) ∷ shown (fields_in 803169)
    ∷ weekday_in 0 ∷ weekday_in 739402
    -- a month on from 31 January, a year back from 29 February, and the largest counts
    ∷ advance_of 739282 (pos 1) Months ∷ advance_of 738945 (negsuc 0) Years ∷ advance_of 739282 (pos 2147483647) Weeks
    ∷ advance_of 739282 (negsuc 2147483647) Years ∷ advance_of 693961 (negsuc 36888) Days ∷ advance_of 693961 (negsuc 36889) Days
    ∷ month_end_of 738945 ∷ month_end_of 803169
    -- the third Wednesday of March 2025, a fifth and a sixth Monday, weekdays that are none
    ∷ nth_weekday_of 3 3 3 2025 ∷ nth_weekday_of 5 1 3 2025 ∷ nth_weekday_of 5 1 4 2025 ∷ nth_weekday_of 6 1 3 2025 ∷ nth_weekday_of 0 1 3 2025 ∷ nth_weekday_of 1 0 3 2025
    ∷ nth_weekday_of 1 8 3 2025 ∷ next_weekday_of 739402 6 ∷ next_weekday_of 739402 5 ∷ next_weekday_of 739402 8 ∷ next_weekday_of 803168 1 ∷ [])
    (given 1 ∷ given 693961 ∷ given 803168 ∷ given 657072 ∷ given 876216
    ∷ given 10101 ∷ given 18000101 ∷ given 23991231 ∷ given 20000229
    ∷ refused 2 ∷ given 730179 ∷ refused 2 ∷ refused 2 ∷ refused 2 ∷ refused 2 ∷ refused 2
    ∷ refused 2 ∷ refused 2
    ∷ refused 2 ∷ refused 2 ∷ given 19010101 ∷ given 21991231 ∷ refused 2
    ∷ refused 2 ∷ given 6
    ∷ given 739310 ∷ given 738579 ∷ refused 2
    ∷ refused 2 ∷ given 657072 ∷ refused 2
    ∷ given 738945 ∷ refused 2
    ∷ given 739329 ∷ given 739341 ∷ refused 2 ∷ refused 2 ∷ refused 2 ∷ refused 2
    ∷ refused 2 ∷ given 739402 ∷ given 739408 ∷ refused 2 ∷ given 803174 ∷ [])
unfolding leap row_of month_length gone guess years_gone sum_to month_in day_in place_of day_number fields_at weekday_of days_until need then in_book within_span make_of fields_in weekday_in last_of_month month_end_of month_index in_month step shift_days shift_months shifted advance_of next_weekday_of nth_weekday_of
sums = refl
