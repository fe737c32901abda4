-- Request L4's own sums: books that are refused, and books with what they leave in the lists, as one list and one claim.
-- Assumes nothing.
use Rattle.std.specs.Prelude.{ℕ, zero, suc, ◌≡◌, refl, List, [], ◌∷◌, ◌++◌, length, replicate}
use Rattle.refusal.specs.Answer.{Answer, given, refused, need, then}
use Rattle.date.specs.Civil.{leap, row_of, month_length, gone, sum_to, day_number, guess, years_gone, month_in, day_in, place_of, fields_at, weekday_of, days_until}
use Rattle.date.specs.Date.{in_book, within_span, make_of, last_of_month, month_index, in_month, step, shift_days, shift_months, shifted, nth_weekday_of}
use Rattle.calendar.specs.Open.{weekly_closed, member, is_open_day, ascending, closed_ok, calendar_ok}
use Rattle.calendar.specs.AnyCalendar as any
use Rattle.calendar.specs.Adjust.{conventions, in_span, taken_or, same_month, unless_left, towards}
use Rattle.calendar.specs.Calendar.{longest, tenor_ok}
use Rattle.imm.specs.Imm.{main_month, in_cycle, is_imm_date, is_imm_in, third_of, or_else, cycle_from, stride, next_from, next_of}
use Rattle.steps.specs.Rules.{rules, rule_number, one_of, is_zero, is_backward, on_twentieths, in_imm_months, is_credit, is_old_cds, rule_under, is_none, rule_in_force, tenor_under, tenor_in_force, pace_by, pace_of}
use Rattle.steps.specs.Table.{number_or, first_row, is_given, anchor_ok, dates_ok, by_range, by_imm, out_of_range, not_imm, wrong_rule, first_outside, last_outside, monthend_allowed, in_days, short_end, anchor_rows, first_rows, last_rows, rows_under, input_rows}
use Rattle.steps.specs.Twentieths.{twentieth_of, moved_if, skip_of, to_imm_month, next_twentieth, previous_twentieth}
use Rattle.steps.specs.Candidates.{last_day, seed_of, candidate_by, candidate, is_past, unless_same, unless_past, turn_of}
use Rattle.steps.specs.Generate.{has_room_in, put, put_unless, put_new, on_turn, last_try, walk, candidates, anchor_or, put_anchor, zero_dates, put_penultimate, begun, ended, backward_end, backward_from, backward, put_earlier, credit_opening, opening_by, opening, tenor_on, put_seed, put_first, far_enough, is_near, coming_twentieth, put_coming, put_twentieth, second, closing_day, put_closing, closing, opened, shut, forward_end, forward_from, forward, generate_by, generate}
use Rattle.steps.specs.Finish.{third_wednesday, moved, each, between, on_first, on_last, on_middle, wednesdays_by, wednesdays, unless, first_move, last_move, month_end_move, middle_move, seed_asked, seed_at_end, adjustments, meet_at_end, merge_end_if, merge_end, meet_at_front, merge_front_if, merge_front}
use Rattle.steps.specs.Build.{admitted, over, dates_after, flags_after}
use Rattle.steps.specs.Entries.{without_former, without_second, left_beside, pairs_of, merged_entries, entries_of_made, entry_steps, entries_of, paid_of, unadjusted_after}
use Rattle.request.specs.Format as rq
use Rattle.request.specs.Format.{pick, signed16, is_date, is_letter, is_tenor, is_below, are_dates, body_ok, cut_of, last_tag, is_end, on_field, on_cut, fields_from, body_or, unit_of, tenor_of, rule_of, convention_of, dates_of, request_from, closed_from, asked_from, asked_in, decoded}
use Rattle.book.specs.Framing.{unless_cut, or_none, requests_from, requests_in}
use Rattle.book.specs.Book.{Lists, lists, call_of, count_of, four_numbers, on_part, turned, on_call, booked, book_of, lists_after}

-- 2025-03-01 twice, 1M: one date, 1 try; led by its length
abbrev one : List ℕ
one =
    0 ∷ 23 ∷ 1 ∷ 0 ∷ 4 ∷ 0 ∷ 11 ∷ 71 ∷ 239 ∷ 2 ∷ 0 ∷ 4 ∷ 0 ∷ 11 ∷ 71 ∷ 239 ∷ 3 ∷ 0 ∷ 3 ∷ 77 ∷ 0 ∷ 1 ∷ 255 ∷ 0 ∷ 0 ∷ []

-- Twentieth 3M, 2025-06-25 to 2025-07-01: two dates, 1 try, and room 3 needed
abbrev two : List ℕ
two =
    0 ∷ 27 ∷ 1 ∷ 0 ∷ 4 ∷ 0 ∷ 11 ∷ 72 ∷ 99 ∷ 2 ∷ 0 ∷ 4 ∷ 0 ∷ 11 ∷ 72 ∷ 105 ∷ 3 ∷ 0 ∷ 3 ∷ 77 ∷ 0 ∷ 3 ∷ 4 ∷ 0 ∷ 1 ∷ 3 ∷ 255 ∷ 0 ∷ 0 ∷ []

-- a request of no bytes, so many times
repeated : ℕ → List ℕ
repeated zero = []
repeated (suc n) = 0 ∷ 0 ∷ repeated n

-- what a book leaves in lists of so many places that hold 9, and its answers in a list of so many places: the number of its requests first,
-- and the refusal alone where it is refused
data Sum : Type 0 where
  answer : ℕ → Lists → Sum
  number : ℕ → Sum

of : List ℕ → (dates flags unadjusted answers : ℕ) → Sum
of bytes dates flags unadjusted answers =
    by (book_of bytes dates flags unadjusted answers)
  where
    by : Answer (List (List ℕ)) → Sum
    by (given rs) = answer (length rs) (booked rs 0 0 (lists (replicate dates 9) (replicate flags 9) (replicate unadjusted 9) (replicate answers 9)))
    by (refused n) = number n

sums : ◌≡◌ {A = List Sum}
    (of [] 2 2 2 1
    ∷ of (0 ∷ []) 2 2 2 4
    ∷ of (0 ∷ 5 ∷ 255 ∷ 0 ∷ 0 ∷ []) 2 2 2 4
    ∷ of (repeated 65) 0 0 0 260
    ∷ of (repeated 64) 0 0 0 255
    ∷ of (one ++ one ++ (0 ∷ [])) 2 2 2 12
    ∷ of (one ++ one) 2 2 2 7
    ∷ of (0 ∷ []) 2 1 2 0
    ∷ of (0 ∷ []) 2 2 1 0
    ∷ of (0 ∷ 0 ∷ []) 0 0 0 4
    ∷ of one 0 0 0 4
    ∷ of (one ++ one) 2 2 2 8
    ∷ of (two ++ one) 3 3 3 9
    ∷ of (two ++ one) 2 2 2 8
    ∷ [])
    (answer 0 (lists (9 ∷ 9 ∷ []) (9 ∷ 9 ∷ []) (9 ∷ 9 ∷ []) (9 ∷ []))
    ∷ number 20
    ∷ number 20
    ∷ number 20
    ∷ number 20
    ∷ number 20
    ∷ number 20
    ∷ number 1
    ∷ number 1
    ∷ answer 1 (lists [] [] [] (0 ∷ 0 ∷ 0 ∷ 17 ∷ []))
    ∷ answer 1 (lists [] [] [] (0 ∷ 0 ∷ 0 ∷ 14 ∷ []))
    ∷ answer 2 (lists (739311 ∷ 739311 ∷ []) (9 ∷ 9 ∷ []) (739311 ∷ 739311 ∷ []) (1 ∷ 0 ∷ 1 ∷ 0 ∷ 1 ∷ 1 ∷ 1 ∷ 0 ∷ []))
    ∷ answer 2 (lists (739427 ∷ 739452 ∷ 739311 ∷ []) (1 ∷ 9 ∷ 9 ∷ []) (739427 ∷ 739452 ∷ 739311 ∷ []) (2 ∷ 0 ∷ 1 ∷ 0 ∷ 1 ∷ 2 ∷ 1 ∷ 0 ∷ 9 ∷ []))
    ∷ answer 2 (lists (739311 ∷ 9 ∷ []) (9 ∷ 9 ∷ []) (739311 ∷ 9 ∷ []) (0 ∷ 0 ∷ 0 ∷ 14 ∷ 1 ∷ 0 ∷ 1 ∷ 0 ∷ []))
    ∷ [])
unfolding rule_number one_of is_zero is_backward need then leap row_of month_length gone sum_to day_number guess years_gone month_in day_in place_of fields_at weekday_of days_until in_book within_span make_of last_of_month month_index in_month step shift_days shift_months shifted nth_weekday_of weekly_closed member is_open_day ascending closed_ok calendar_ok in_span taken_or any.first_open any.found same_month unless_left any.modified any.by_convention any.adjusted any.last_open any.at_month_end towards any.open_steps any.end_asked any.landed any.add_months any.add_weeks any.by_unit any.advanced longest tenor_ok main_month in_cycle is_imm_date is_imm_in third_of or_else cycle_from stride next_from next_of on_twentieths in_imm_months is_credit is_old_cds rule_under is_none rule_in_force tenor_under tenor_in_force pace_by pace_of number_or first_row is_given anchor_ok dates_ok by_range by_imm out_of_range not_imm wrong_rule first_outside last_outside monthend_allowed in_days short_end anchor_rows first_rows last_rows rows_under input_rows twentieth_of moved_if skip_of to_imm_month next_twentieth previous_twentieth last_day seed_of candidate_by candidate is_past unless_same unless_past turn_of has_room_in put put_unless put_new on_turn last_try walk candidates anchor_or put_anchor zero_dates put_penultimate begun ended backward_end backward_from backward put_earlier credit_opening opening_by opening tenor_on put_seed put_first far_enough is_near coming_twentieth put_coming put_twentieth second closing_day put_closing closing opened shut forward_end forward_from forward generate_by generate third_wednesday moved each between on_first on_last on_middle wednesdays_by wednesdays unless first_move last_move month_end_move middle_move seed_asked seed_at_end adjustments meet_at_end merge_end_if merge_end meet_at_front merge_front_if merge_front rules conventions rq.date_of pick signed16 is_date is_letter is_tenor is_below are_dates body_ok cut_of last_tag is_end on_field on_cut fields_from body_or unit_of tenor_of rule_of convention_of dates_of request_from closed_from asked_from asked_in decoded without_former without_second left_beside pairs_of merged_entries entries_of_made entry_steps entries_of paid_of unadjusted_after admitted over dates_after flags_after unless_cut or_none requests_from requests_in call_of count_of four_numbers on_part turned on_call booked book_of lists_after repeated of
sums = refl
