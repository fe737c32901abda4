-- Document 01, "Sums by hand": all that are marked *, rooms included, as one list and one claim; the CDS sum as request L3 has it.
-- Assumes nothing.
use Rattle.std.specs.Prelude.{ℕ, ◌≡◌, refl, true, false, List, [], ◌∷◌}
use Rattle.refusal.specs.Answer.{Answer, given, refused, need, then}
use Rattle.period.specs.declared.Unit.TheVariants.{Months}
use Rattle.calendar.specs.declared.Convention.TheVariants.{Unadjusted}
use Rattle.steps.specs.declared.Rule.{Rule}
use Rattle.steps.specs.declared.Rule.TheVariants.{Backward, Twentieth, OldCDS, CDS}
use Rattle.steps.specs.declared.Request.{Request}
use Rattle.date.specs.Civil.{leap, row_of, month_length, gone, sum_to, day_number, guess, years_gone, month_in, day_in, place_of, fields_at, weekday_of, days_until}
use Rattle.date.specs.Date.{in_book, within_span, make_of, last_of_month, month_index, in_month, step, shift_days, shift_months, shifted, nth_weekday_of}
use Rattle.calendar.specs.Open.{weekly_closed, member, is_open_day, ascending, closed_ok, calendar_ok}
use Rattle.calendar.specs.AnyCalendar as any
use Rattle.calendar.specs.Adjust.{in_span, taken_or, same_month, unless_left, towards}
use Rattle.calendar.specs.Calendar.{longest, tenor_ok}
use Rattle.imm.specs.declared.codes.Code.{Code}
use Rattle.imm.specs.Imm.{main_month, in_cycle, is_imm_date, is_imm_in, third_of, or_else, cycle_from, stride, next_from, next_of, next_in, letters, upper, place_in, month_of, is_digit, is_pair, is_code, code_month, code_digit, code_of, code_in, first_year, date_from, date_of, date_in}
use Rattle.steps.specs.Rules.{rule_number, one_of, is_zero, is_backward, on_twentieths, in_imm_months, is_credit, is_old_cds, rule_under, is_none, rule_in_force, tenor_under, tenor_in_force, pace_by, pace_of}
use Rattle.steps.specs.Table.{number_or, first_row, is_given, anchor_ok, dates_ok, by_range, by_imm, out_of_range, not_imm, wrong_rule, first_outside, last_outside, monthend_allowed, in_days, short_end, anchor_rows, first_rows, last_rows, rows_under, input_rows}
use Rattle.steps.specs.Twentieths.{twentieth_of, moved_if, skip_of, to_imm_month, next_twentieth, previous_twentieth}
use Rattle.steps.specs.Candidates.{last_day, seed_of, candidate_by, candidate, is_past, unless_same, unless_past, turn_of}
use Rattle.steps.specs.Generate.{has_room_in, put, put_unless, put_new, on_turn, last_try, walk, candidates, anchor_or, put_anchor, zero_dates, put_penultimate, begun, ended, backward_end, backward_from, backward, put_earlier, credit_opening, opening_by, opening, tenor_on, put_seed, put_first, far_enough, is_near, coming_twentieth, put_coming, put_twentieth, second, closing_day, put_closing, closing, opened, shut, forward_end, forward_from, forward, generate_by, generate}
use Rattle.steps.specs.Finish.{third_wednesday, moved, each, between, on_first, on_last, on_middle, wednesdays_by, wednesdays, unless, first_move, last_move, month_end_move, middle_move, seed_asked, seed_at_end, adjustments, meet_at_end, merge_end_if, merge_end, meet_at_front, merge_front_if, merge_front, finish}
use Rattle.steps.specs.Build.{Schedule, steps_of, admitted, build_of}
use Rattle.plain.specs.Requests.{on, asked}

-- a request by months, always open, Unadjusted, with no anchors and end of month off
plain : Rule → ℕ → ℕ → ℕ → Request
plain rule months from to = asked rule Unadjusted Unadjusted false from to months Months 0 0 0

in_room : ℕ → Request → Answer Schedule
in_room room q = build_of q [] room room

quarterly : Rule → ℕ → ℕ → Request
quarterly rule from to = plain rule 3 from to

-- what a sum is of: a build, a date, or an IMM code
data Sum : Type 0 where
  built : Answer Schedule → Sum
  day : Answer ℕ → Sum
  code : Answer Code → Sum

abbrev H5 : List ℕ
H5 = 72 ∷ 53 ∷ []

sums : ◌≡◌ {A = List Sum}
    (built (in_room 5 (quarterly Backward (on 1 15) (on 12 20)))
    ∷ built (in_room 4 (quarterly Backward (on 1 15) (on 12 20)))
    ∷ built (in_room 4096 (plain Backward 1 (on 1 31) (on 5 31)))
    ∷ built (in_room 4096 (plain Backward 1 (on 3 1) (on 3 1)))
    ∷ built (in_room 4096 (plain Backward 1 (on 6 1) (on 3 1)))
    ∷ built (in_room 4096 (quarterly Twentieth (on 6 25) (on 3 1)))
    ∷ built (in_room 3 (quarterly Twentieth (on 6 25) (on 7 1)))
    ∷ built (in_room 2 (quarterly Twentieth (on 6 25) (on 7 1)))
    ∷ built (in_room 4096 (quarterly OldCDS (on 2 18) (on 12 20)))
    ∷ built (in_room 4096 (quarterly OldCDS (on 2 19) (on 12 20)))
    ∷ built (in_room 4096 (quarterly CDS (on 4 25) (on 12 20)))
    ∷ day (next_in false (on 3 18))
    ∷ day (next_in false (on 3 19))
    ∷ day (next_in true (on 3 19))
    ∷ day (date_in H5 (on 3 19))
    ∷ day (date_in H5 (on 3 20))
    ∷ code (code_in (on 12 17))
    ∷ [])
    (built (given (record { dates = on 1 15 ∷ on 3 20 ∷ on 6 20 ∷ on 9 20 ∷ on 12 20 ∷ []; flags = 0 ∷ 1 ∷ 1 ∷ 1 ∷ []; tries = 4 }))
    ∷ built (refused 14)
    ∷ built (given (record { dates = on 1 31 ∷ on 2 28 ∷ on 3 31 ∷ on 4 30 ∷ on 5 31 ∷ []; flags = 1 ∷ 1 ∷ 1 ∷ 1 ∷ []; tries = 5 }))
    ∷ built (given (record { dates = on 3 1 ∷ []; flags = []; tries = 1 }))
    ∷ built (given (record { dates = on 3 1 ∷ []; flags = []; tries = 1 }))
    ∷ built (refused 15)
    ∷ built (given (record { dates = on 6 25 ∷ on 7 20 ∷ []; flags = 1 ∷ []; tries = 1 }))
    ∷ built (refused 14)
    ∷ built (given (record { dates = on 2 18 ∷ on 3 20 ∷ on 6 20 ∷ on 9 20 ∷ on 12 20 ∷ []; flags = 0 ∷ 1 ∷ 1 ∷ 1 ∷ []; tries = 4 }))
    ∷ built (given (record { dates = on 2 19 ∷ on 6 20 ∷ on 9 20 ∷ on 12 20 ∷ []; flags = 0 ∷ 1 ∷ 1 ∷ []; tries = 3 }))
    ∷ built (given (record { dates = on 3 20 ∷ on 6 20 ∷ on 9 20 ∷ on 12 20 ∷ []; flags = 1 ∷ 1 ∷ 1 ∷ []; tries = 3 }))
    ∷ day (given (on 3 19))
    ∷ day (given (on 4 16))
    ∷ day (given (on 6 18))
    ∷ day (given (on 3 19))
    ∷ day (given (day_number 2035 3 21))
    ∷ code (given (record { letter = 90; digit = 53 }))
    ∷ [])
unfolding rule_number one_of is_zero is_backward plain in_room quarterly need then leap row_of month_length gone sum_to day_number guess years_gone month_in day_in place_of fields_at weekday_of days_until in_book within_span make_of last_of_month month_index in_month step shift_days shift_months shifted nth_weekday_of weekly_closed member is_open_day ascending closed_ok calendar_ok in_span taken_or any.first_open any.found same_month unless_left any.modified any.by_convention any.adjusted any.last_open any.at_month_end towards any.open_steps any.end_asked any.landed any.add_months any.add_weeks any.by_unit any.advanced longest tenor_ok main_month in_cycle is_imm_date is_imm_in third_of or_else cycle_from stride next_from next_of next_in letters upper place_in month_of is_digit is_pair is_code code_month code_digit code_of code_in first_year date_from date_of date_in on_twentieths in_imm_months is_credit is_old_cds rule_under is_none rule_in_force tenor_under tenor_in_force pace_by pace_of number_or first_row is_given anchor_ok dates_ok by_range by_imm out_of_range not_imm wrong_rule first_outside last_outside monthend_allowed in_days short_end anchor_rows first_rows last_rows rows_under input_rows twentieth_of moved_if skip_of to_imm_month next_twentieth previous_twentieth last_day seed_of candidate_by candidate is_past unless_same unless_past turn_of has_room_in put put_unless put_new on_turn last_try walk candidates anchor_or put_anchor zero_dates put_penultimate begun ended backward_end backward_from backward put_earlier credit_opening opening_by opening tenor_on put_seed put_first far_enough is_near coming_twentieth put_coming put_twentieth second closing_day put_closing closing opened shut forward_end forward_from forward generate_by generate third_wednesday moved each between on_first on_last on_middle wednesdays_by wednesdays unless first_move last_move month_end_move middle_move seed_asked seed_at_end adjustments meet_at_end merge_end_if merge_end meet_at_front merge_front_if merge_front finish steps_of admitted build_of
sums = refl
