-- The points of document 01 that are easily lost, a build or two for each, as one list and one claim. The answers are the Rust's (oracle/README.md says
-- how it is asked); `closed` and a panic of its are 13 and 15. Not the Rust's are the four that begin at the previous twentieth of a date off the grid.
-- Assumes nothing.
use Rattle.std.specs.Prelude.{ℕ, zero, suc, ◌≡◌, refl, true, false, List, [], ◌∷◌, pos}
use Rattle.refusal.specs.Answer.{Answer, given, refused, need, then}
use Rattle.date.specs.Civil.{leap, row_of, month_length, gone, sum_to, day_number, guess, years_gone, month_in, day_in, place_of, fields_at, weekday_of, days_until}
use Rattle.date.specs.Date.{in_book, within_span, make_of, last_of_month, month_index, in_month, step, shift_days, shift_months, shifted, nth_weekday_of}
use Rattle.calendar.specs.Open.{weekly_closed, member, is_open_day, ascending, closed_ok, calendar_ok}
use Rattle.calendar.specs.AnyCalendar as any
use Rattle.calendar.specs.Adjust.{in_span, taken_or, same_month, unless_left, towards}
use Rattle.calendar.specs.Calendar.{longest, tenor_ok}
use Rattle.steps.specs.Rules.{rule_number, one_of, is_zero, is_backward, on_twentieths, in_imm_months, is_credit, is_old_cds, rule_under, is_none, rule_in_force, tenor_under, tenor_in_force, pace_by, pace_of}
use Rattle.steps.specs.Table.{number_or, first_row, is_given, anchor_ok, dates_ok, by_range, by_imm, out_of_range, not_imm, wrong_rule, first_outside, last_outside, monthend_allowed, in_days, short_end, anchor_rows, first_rows, last_rows, rows_under, input_rows}
use Rattle.steps.specs.Twentieths.{twentieth_of, moved_if, skip_of, to_imm_month, next_twentieth, previous_twentieth}
use Rattle.steps.specs.Candidates.{last_day, seed_of, candidate_by, candidate, is_past, unless_same, unless_past, turn_of}
use Rattle.steps.specs.Generate.{has_room_in, put, put_unless, put_new, on_turn, last_try, walk, candidates, anchor_or, put_anchor, zero_dates, put_penultimate, begun, ended, backward_end, backward_from, backward, put_earlier, credit_opening, opening_by, opening, tenor_on, put_seed, put_first, far_enough, is_near, coming_twentieth, put_coming, put_twentieth, second, closing_day, put_closing, closing, opened, shut, forward_end, forward_from, forward, generate_by, generate}
use Rattle.steps.specs.Finish.{third_wednesday, moved, each, between, on_first, on_last, on_middle, wednesdays_by, wednesdays, unless, first_move, last_move, month_end_move, middle_move, seed_asked, seed_at_end, adjustments, meet_at_end, merge_end_if, merge_end, meet_at_front, merge_front_if, merge_front, finish}
use Rattle.steps.specs.Build.{Schedule, steps_of, admitted, build_of, answered}
use Rattle.imm.specs.Imm.{is_imm_date, in_cycle, main_month}
use Rattle.period.specs.declared.Unit.TheVariants.{Days, Months, Weeks, Years}
use Rattle.calendar.specs.declared.Convention.TheVariants.{Following, ModifiedFollowing, Preceding, Unadjusted}
use Rattle.steps.specs.declared.Rule.TheVariants.{Backward, CDS, Forward, OldCDS, ThirdWednesday, ThirdWednesdayInclusive, Zero}
use Rattle.steps.specs.declared.Request.{Request}
use Rattle.plain.specs.Requests.{on, weekends, asked}

-- all but Sundays closed
abbrev all_but_sundays : ℕ
all_but_sundays = 63

-- days one after the other
days_from : ℕ → ℕ → List ℕ
days_from zero day = []
days_from (suc n) day = day ∷ days_from n (suc day)

builds : List ℕ → Request → Answer Schedule
builds closed q = build_of q closed 4096 4096

points : ◌≡◌ {A = List (Answer Schedule)}
    -- length 0 forces Zero
    (builds [] (asked Backward Unadjusted Unadjusted false (on 1 15) (on 3 20) 0 Months 0 0 0)
    -- candidates that adjust to the day of the date kept before are skipped
    ∷ builds [] (asked Backward Following Following false (on 5 30) (on 6 3) 1 Days 0 0 weekends)
    -- a forward build's first-date flag asks the given calendar
    ∷ builds [] (asked Forward ModifiedFollowing ModifiedFollowing false (on 1 31) (on 4 30) 1 Months (on 2 28) 0 weekends)
    -- a tenor of days steps open days there: 2025-01-03 and three open days is 01-08
    ∷ builds [] (asked Forward Following Following false (on 1 3) (on 1 14) 3 Days (on 1 8) 0 weekends)
    -- a backward build's next-to-last flag asks the null calendar: three days before 2025-01-14
    ∷ builds [] (asked Backward Following Following false (on 1 3) (on 1 14) 3 Days 0 (on 1 11) weekends)
    -- third-Wednesday anchors are not compared with the range
    ∷ builds [] (asked ThirdWednesday Unadjusted Unadjusted false (on 2 3) (on 6 20) 1 Months (on 9 17) 0 0)
    -- crossed anchors give a list out of order
    ∷ builds [] (asked Forward Unadjusted Unadjusted false (on 1 1) (on 1 4) 1 Months (on 1 3) (on 1 2) 0)
    -- CDS: the date before the previous twentieth is three months before it, unadjusted
    ∷ builds ((on 3 20) ∷ []) (asked CDS Following Following false (on 3 20) (on 12 20) 3 Months 0 0 0)
    -- CDS from off the grid of twentieths: the Rust, whose step back lands elsewhere, gives two dates, collapses, and gives four
    ∷ builds [] (asked CDS Unadjusted Unadjusted false (on 4 25) (on 3 1) 3 Months 0 0 0)
    ∷ builds ((on 3 20) ∷ []) (asked CDS Preceding Preceding false (on 5 25) (on 3 1) 3 Months 0 0 0)
    ∷ builds (days_from 31 (on 3 20)) (asked CDS Following Following false (on 4 25) (on 12 20) 3 Months 0 0 0)
    -- OldCDS never adjusts the first date, CDS never the last
    ∷ builds [] (asked OldCDS Following Following false (on 3 1) (on 12 20) 3 Months 0 0 weekends)
    ∷ builds [] (asked CDS Following Following false (on 3 1) (on 12 20) 3 Months 0 0 weekends)
    -- the first search of a modified convention fails
    ∷ builds ((on 3 9) ∷ (on 3 16) ∷ (on 3 23) ∷ (on 3 30) ∷ []) (asked Zero ModifiedFollowing ModifiedFollowing false (on 3 3) (on 3 3) 0 Days 0 0 all_but_sundays)
    -- the seed's month-end test searches, under Unadjusted and without a middle date too
    ∷ builds ((on 3 9) ∷ (on 3 16) ∷ (on 3 23) ∷ (on 3 30) ∷ []) (asked Backward Unadjusted Unadjusted true (on 3 1) (on 3 2) 1 Months 0 0 all_but_sundays)
    -- month ends: plain under Unadjusted, the calendar's otherwise
    ∷ builds [] (asked Backward Unadjusted Unadjusted true (on 4 30) (on 6 30) 1 Months 0 0 weekends)
    ∷ builds [] (asked Backward Following Following true (on 4 30) (on 6 30) 1 Months 0 0 weekends)
    -- two month-end tests: candidates ask the null calendar, middle dates the given one
    ∷ builds [] (asked Backward Following Following true (on 1 30) (on 5 30) 1 Months 0 0 weekends)
    -- end of month with weeks, under Zero: asked for, and forced by length 0
    ∷ builds [] (asked Zero Unadjusted Unadjusted true (on 1 31) (on 3 31) 1 Weeks 0 0 0)
    ∷ builds [] (asked Backward Unadjusted Unadjusted true (on 1 31) (on 3 31) 0 Weeks 0 0 0)
    -- month ends repeat where an anchor shares a month with a candidate
    ∷ builds [] (asked Backward Unadjusted Unadjusted true (on 1 10) (on 6 30) 1 Months (on 2 10) (on 5 31) 0)
    -- ThirdWednesdayInclusive: short tenors repeat a date or collapse
    ∷ builds [] (asked ThirdWednesdayInclusive Unadjusted Unadjusted false (on 1 1) (on 1 16) 1 Weeks 0 0 0)
    ∷ builds [] (asked ThirdWednesdayInclusive Unadjusted Unadjusted false (on 1 1) (on 1 16) 2 Weeks 0 0 0)
    ∷ builds [] (asked ThirdWednesdayInclusive Unadjusted Unadjusted false (on 1 1) (on 1 29) 1 Weeks 0 0 0)
    -- forward, termination is compared under its own convention
    ∷ builds [] (asked Forward Following Unadjusted false (on 1 1) (on 2 2) 1 Months 0 0 weekends)
    -- backward, the effective date under the convention
    ∷ builds [] (asked Backward Following Unadjusted false (on 2 1) (on 3 2) 1 Months 0 0 weekends)
    -- a single date meets the first-date adjustment and then the last-date one
    ∷ builds [] (asked Backward Following Preceding false (on 3 1) (on 3 1) 1 Months 0 0 weekends)
    ∷ [])
    (given (record { dates = on 1 15 ∷ on 3 20 ∷ []; flags = 1 ∷ []; tries = 0 })
    ∷ given (record { dates = on 5 30 ∷ on 6 2 ∷ on 6 3 ∷ []; flags = 1 ∷ 1 ∷ []; tries = 5 })
    ∷ given (record { dates = on 1 31 ∷ on 2 28 ∷ on 3 28 ∷ on 4 28 ∷ on 4 30 ∷ []; flags = 1 ∷ 1 ∷ 1 ∷ 0 ∷ []; tries = 3 })
    ∷ given (record { dates = on 1 3 ∷ on 1 8 ∷ on 1 13 ∷ on 1 14 ∷ []; flags = 1 ∷ 1 ∷ 1 ∷ []; tries = 3 })
    ∷ given (record { dates = on 1 3 ∷ on 1 6 ∷ on 1 8 ∷ on 1 13 ∷ on 1 14 ∷ []; flags = 0 ∷ 1 ∷ 1 ∷ 1 ∷ []; tries = 3 })
    ∷ given (record { dates = on 2 3 ∷ on 6 20 ∷ []; flags = 0 ∷ []; tries = 1 })
    ∷ given (record { dates = on 1 1 ∷ on 1 3 ∷ on 1 2 ∷ on 1 4 ∷ []; flags = 0 ∷ 0 ∷ 0 ∷ []; tries = 1 })
    ∷ given (record { dates = day_number 2024 12 20 ∷ on 3 21 ∷ on 6 20 ∷ on 9 20 ∷ on 12 20 ∷ []; flags = 1 ∷ 1 ∷ 1 ∷ 1 ∷ []; tries = 4 })
    ∷ refused 15
    ∷ given (record { dates = on 3 19 ∷ on 3 20 ∷ []; flags = 0 ∷ []; tries = 1 })
    ∷ refused 13
    ∷ given (record { dates = on 3 1 ∷ on 6 20 ∷ on 9 22 ∷ on 12 22 ∷ []; flags = 0 ∷ 1 ∷ 1 ∷ []; tries = 3 })
    ∷ given (record { dates = day_number 2024 12 20 ∷ on 3 20 ∷ on 6 20 ∷ on 9 22 ∷ on 12 20 ∷ []; flags = 1 ∷ 1 ∷ 1 ∷ 1 ∷ []; tries = 4 })
    ∷ refused 13
    ∷ refused 13
    ∷ given (record { dates = on 4 30 ∷ on 5 31 ∷ on 6 30 ∷ []; flags = 1 ∷ 1 ∷ []; tries = 3 })
    ∷ given (record { dates = on 4 30 ∷ on 5 30 ∷ on 6 30 ∷ []; flags = 1 ∷ 1 ∷ []; tries = 3 })
    ∷ given (record { dates = on 1 30 ∷ on 2 28 ∷ on 3 31 ∷ on 4 30 ∷ on 5 30 ∷ []; flags = 1 ∷ 1 ∷ 1 ∷ 1 ∷ []; tries = 5 })
    ∷ given (record { dates = on 1 31 ∷ on 3 31 ∷ []; flags = 1 ∷ []; tries = 0 })
    ∷ given (record { dates = on 1 31 ∷ on 3 31 ∷ []; flags = 1 ∷ []; tries = 0 })
    ∷ given (record { dates = on 1 10 ∷ on 2 28 ∷ on 2 28 ∷ on 3 31 ∷ on 4 30 ∷ on 5 31 ∷ on 6 30 ∷ []; flags = 0 ∷ 0 ∷ 1 ∷ 1 ∷ 1 ∷ 1 ∷ []; tries = 4 })
    ∷ given (record { dates = on 1 15 ∷ on 1 15 ∷ []; flags = 1 ∷ []; tries = 3 })
    ∷ refused 15
    ∷ given (record { dates = on 1 15 ∷ on 1 15 ∷ on 1 15 ∷ []; flags = 1 ∷ 1 ∷ []; tries = 5 })
    ∷ given (record { dates = on 1 1 ∷ on 2 2 ∷ []; flags = 0 ∷ []; tries = 2 })
    ∷ given (record { dates = on 2 3 ∷ on 3 2 ∷ []; flags = 1 ∷ []; tries = 2 })
    ∷ given (record { dates = on 3 3 ∷ []; flags = []; tries = 1 })
    ∷ [])
unfolding rule_number one_of is_zero is_backward days_from builds need then leap row_of month_length gone sum_to day_number guess years_gone month_in day_in place_of fields_at weekday_of days_until in_book within_span make_of last_of_month month_index in_month step shift_days shift_months shifted nth_weekday_of weekly_closed member is_open_day ascending closed_ok calendar_ok in_span taken_or any.first_open any.found same_month unless_left any.modified any.by_convention any.adjusted any.last_open any.at_month_end towards any.open_steps any.end_asked any.landed any.add_months any.add_weeks any.by_unit any.advanced longest tenor_ok main_month in_cycle is_imm_date on_twentieths in_imm_months is_credit is_old_cds rule_under is_none rule_in_force tenor_under tenor_in_force pace_by pace_of number_or first_row is_given anchor_ok dates_ok by_range by_imm out_of_range not_imm wrong_rule first_outside last_outside monthend_allowed in_days short_end anchor_rows first_rows last_rows rows_under input_rows twentieth_of moved_if skip_of to_imm_month next_twentieth previous_twentieth last_day seed_of candidate_by candidate is_past unless_same unless_past turn_of has_room_in put put_unless put_new on_turn last_try walk candidates anchor_or put_anchor zero_dates put_penultimate begun ended backward_end backward_from backward put_earlier credit_opening opening_by opening tenor_on put_seed put_first far_enough is_near coming_twentieth put_coming put_twentieth second closing_day put_closing closing opened shut forward_end forward_from forward generate_by generate third_wednesday moved each between on_first on_last on_middle wednesdays_by wednesdays unless first_move last_move month_end_move middle_move seed_asked seed_at_end adjustments meet_at_end merge_end_if merge_end meet_at_front merge_front_if merge_front finish steps_of admitted build_of
points = refl

-- length 0 forces Zero, and the tenor in force is 0 years
in_force : answered (asked Backward Unadjusted Unadjusted false (on 1 15) (on 3 20) 0 Months 0 0 0) 0 (builds [] (asked Backward Unadjusted Unadjusted false (on 1 15) (on 3 20) 0 Months 0 0 0)) ≡ record { number = 0; count = 2; tries = 0; rule = Zero; tenor = record { length = pos 0; unit = Years }; moved = 0 }
unfolding rule_number one_of is_zero is_backward builds need then leap row_of month_length gone sum_to day_number guess years_gone month_in day_in place_of fields_at weekday_of days_until in_book within_span make_of last_of_month month_index in_month step shift_days shift_months shifted nth_weekday_of weekly_closed member is_open_day ascending closed_ok calendar_ok in_span taken_or any.first_open any.found same_month unless_left any.modified any.by_convention any.adjusted any.last_open any.at_month_end towards any.open_steps any.end_asked any.landed any.add_months any.add_weeks any.by_unit any.advanced longest tenor_ok main_month in_cycle is_imm_date on_twentieths in_imm_months is_credit is_old_cds rule_under is_none rule_in_force tenor_under tenor_in_force pace_by pace_of number_or first_row is_given anchor_ok dates_ok by_range by_imm out_of_range not_imm wrong_rule first_outside last_outside monthend_allowed in_days short_end anchor_rows first_rows last_rows rows_under input_rows twentieth_of moved_if skip_of to_imm_month next_twentieth previous_twentieth last_day seed_of candidate_by candidate is_past unless_same unless_past turn_of has_room_in put put_unless put_new on_turn last_try walk candidates anchor_or put_anchor zero_dates put_penultimate begun ended backward_end backward_from backward put_earlier credit_opening opening_by opening tenor_on put_seed put_first far_enough is_near coming_twentieth put_coming put_twentieth second closing_day put_closing closing opened shut forward_end forward_from forward generate_by generate third_wednesday moved each between on_first on_last on_middle wednesdays_by wednesdays unless first_move last_move month_end_move middle_move seed_asked seed_at_end adjustments meet_at_end merge_end_if merge_end meet_at_front merge_front_if merge_front finish steps_of admitted build_of answered
in_force = refl
