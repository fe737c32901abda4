-- Request L7's worked answers: each entry's paid date and the one before adjustment, as one list and one claim.
-- A list of its own beside Points: another function answers, with pairs of dates, and each list is one claim.
-- Assumes nothing.
use Rattle.std.specs.Prelude.{ℕ, ◌≡◌, refl, true, false, List, [], ◌∷◌}
use Rattle.refusal.specs.Answer.{Answer, given, refused, need, then}
use Rattle.date.specs.Civil.{leap, row_of, month_length, gone, sum_to, day_number, guess, years_gone, month_in, day_in, place_of, fields_at, weekday_of, days_until}
use Rattle.date.specs.Date.{in_book, within_span, make_of, last_of_month, month_index, in_month, step, shift_days, shift_months, shifted, nth_weekday_of}
use Rattle.calendar.specs.Open.{weekly_closed, member, is_open_day, ascending, closed_ok, calendar_ok}
use Rattle.calendar.specs.AnyCalendar as any
use Rattle.calendar.specs.Adjust.{in_span, taken_or, same_month, unless_left, towards}
use Rattle.calendar.specs.Calendar.{longest, tenor_ok}
use Rattle.steps.specs.Rules.{rule_number, one_of, is_zero, is_backward, on_twentieths, in_imm_months, is_credit, is_old_cds, rule_under, is_none, rule_in_force, tenor_under, tenor_in_force, pace_by, pace_of}
use Rattle.steps.specs.Table.{number_or, first_row, is_given, anchor_ok, dates_ok, by_range, by_imm, out_of_range, not_imm, wrong_rule, first_outside, last_outside, monthend_allowed, in_days, short_end, anchor_rows, first_rows, last_rows, rows_under, input_rows}
use Rattle.steps.specs.Twentieths.{twentieth_of, moved_if, skip_of, to_imm_month, next_twentieth, previous_twentieth}
use Rattle.steps.specs.Candidates.{last_day, seed_of, candidate_by, candidate, is_past, unless_same, unless_past, turn_of}
use Rattle.steps.specs.Generate.{has_room_in, put, put_unless, put_new, on_turn, last_try, walk, candidates, anchor_or, put_anchor, zero_dates, put_penultimate, begun, ended, backward_end, backward_from, backward, put_earlier, credit_opening, opening_by, opening, tenor_on, put_seed, put_first, far_enough, is_near, coming_twentieth, put_coming, put_twentieth, second, closing_day, put_closing, closing, opened, shut, forward_end, forward_from, forward, generate_by, generate}
use Rattle.steps.specs.Finish.{third_wednesday, moved, each, between, on_first, on_last, on_middle, wednesdays_by, wednesdays, unless, first_move, last_move, month_end_move, middle_move, seed_asked, seed_at_end, adjustments, meet_at_end, merge_end_if, merge_end, meet_at_front, merge_front_if, merge_front}
use Rattle.steps.specs.Build.{admitted}
use Rattle.steps.specs.Entries.{Entries, without_former, without_second, left_beside, pairs_of, merged_entries, entries_of_made, entry_steps, entries_of}
use Rattle.imm.specs.Imm.{is_imm_date, in_cycle, main_month}
use Rattle.period.specs.declared.Unit.TheVariants.{Days, Months, Weeks, Years}
use Rattle.calendar.specs.declared.Convention.TheVariants.{Following, Preceding, Unadjusted}
use Rattle.steps.specs.declared.Rule.TheVariants.{Backward, CDS, Forward, OldCDS, ThirdWednesday, ThirdWednesdayInclusive, Zero}
use Rattle.steps.specs.declared.Request.{Request}
use Rattle.plain.specs.Requests.{on, weekends, asked}

builds : List ℕ → Request → Answer Entries
builds closed q = entries_of q closed 4096 4096 4096

-- paid dates, flags, tries, unadjusted dates
given_as : List ℕ → List ℕ → ℕ → List ℕ → Answer Entries
given_as dates flags tries unadjusted =
    given (record { schedule = record { dates = dates; flags = flags; tries = tries }; unadjusted = unadjusted })

answers : ◌≡◌ {A = List (Answer Entries)}
    -- third Wednesdays everywhere, and then the convention
    (builds (on 2 19 ∷ []) (asked ThirdWednesdayInclusive Following Following false (on 1 10) (on 3 10) 1 Months 0 0 weekends)
    -- the effective date adjusts to the day of the candidate before it and leaves nothing
    ∷ builds [] (asked Backward Following Unadjusted false (on 3 1) (on 5 2) 1 Months 0 0 weekends)
    -- so does termination in a forward build, and the one entry meets both adjustments
    ∷ builds [] (asked Forward Following Following false (on 3 1) (on 3 2) 1 Days 0 0 weekends)
    -- OldCDS leaves the first date alone
    ∷ builds [] (asked OldCDS Following Following false (on 1 11) (on 3 20) 3 Months 0 0 weekends)
    -- month ends move the paid date alone, plain ones and the calendar's
    ∷ builds [] (asked Backward Unadjusted Unadjusted true (on 1 30) (on 5 30) 1 Months 0 0 weekends)
    ∷ builds [] (asked Backward Following Following true (on 4 30) (on 6 30) 1 Months 0 0 weekends)
    -- the merge at the end keeps the last entry's pair, the one at the front the first's
    ∷ builds [] (asked Forward Following Preceding false (on 2 28) (on 3 2) 1 Days 0 0 weekends)
    ∷ builds (on 1 20 ∷ []) (asked ThirdWednesday Following Following false (on 1 20) (on 3 10) 1 Weeks 0 0 0)
    -- Zero keeps both dates; CDS the previous twentieth
    ∷ builds [] (asked Zero Following Unadjusted false (on 3 1) (on 3 1) 0 Years 0 0 weekends)
    ∷ builds [] (asked CDS Following Following false (on 4 25) (on 12 20) 3 Months 0 0 weekends)
    -- a third list of another length is refused 1, before all else
    ∷ entries_of (asked Backward Unadjusted Unadjusted false 0 0 1 Months 0 0 0) [] 2 2 1
    ∷ entries_of (asked Backward Unadjusted Unadjusted false 0 0 1 Months 0 0 0) [] 2 1 2
    ∷ [])
    (given_as (on 1 15 ∷ on 2 20 ∷ on 3 19 ∷ []) (1 ∷ 1 ∷ []) 3 (on 1 15 ∷ on 2 19 ∷ on 3 19 ∷ [])
    ∷ given_as (on 3 3 ∷ on 4 2 ∷ on 5 2 ∷ []) (1 ∷ 1 ∷ []) 3 (on 3 2 ∷ on 4 2 ∷ on 5 2 ∷ [])
    ∷ given_as (on 3 3 ∷ []) [] 2 (on 3 1 ∷ [])
    ∷ given_as (on 1 11 ∷ on 3 20 ∷ []) (0 ∷ []) 1 (on 1 11 ∷ on 3 20 ∷ [])
    ∷ given_as (on 1 30 ∷ on 2 28 ∷ on 3 31 ∷ on 4 30 ∷ on 5 30 ∷ []) (1 ∷ 1 ∷ 1 ∷ 1 ∷ []) 5 (on 1 30 ∷ on 2 28 ∷ on 3 30 ∷ on 4 30 ∷ on 5 30 ∷ [])
    ∷ given_as (on 4 30 ∷ on 5 30 ∷ on 6 30 ∷ []) (1 ∷ 1 ∷ []) 3 (on 4 30 ∷ on 5 31 ∷ on 6 30 ∷ [])
    ∷ given_as (on 2 28 ∷ []) [] 3 (on 3 1 ∷ [])
    ∷ given_as (on 1 21 ∷ on 2 19 ∷ on 2 19 ∷ on 2 19 ∷ on 2 19 ∷ on 3 10 ∷ []) (0 ∷ 1 ∷ 1 ∷ 1 ∷ 0 ∷ []) 8 (on 1 20 ∷ on 2 19 ∷ on 2 19 ∷ on 2 19 ∷ on 2 19 ∷ on 3 10 ∷ [])
    ∷ given_as (on 3 1 ∷ []) [] 0 (on 3 1 ∷ [])
    ∷ given_as (on 3 20 ∷ on 6 20 ∷ on 9 22 ∷ on 12 20 ∷ []) (1 ∷ 1 ∷ 1 ∷ []) 3 (on 3 20 ∷ on 6 20 ∷ on 9 20 ∷ on 12 20 ∷ [])
    ∷ refused 1
    ∷ refused 1
    ∷ [])
unfolding rule_number one_of is_zero is_backward builds given_as need then leap row_of month_length gone sum_to day_number guess years_gone month_in day_in place_of fields_at weekday_of days_until in_book within_span make_of last_of_month month_index in_month step shift_days shift_months shifted nth_weekday_of weekly_closed member is_open_day ascending closed_ok calendar_ok in_span taken_or any.first_open any.found same_month unless_left any.modified any.by_convention any.adjusted any.last_open any.at_month_end towards any.open_steps any.end_asked any.landed any.add_months any.add_weeks any.by_unit any.advanced longest tenor_ok main_month in_cycle is_imm_date on_twentieths in_imm_months is_credit is_old_cds rule_under is_none rule_in_force tenor_under tenor_in_force pace_by pace_of number_or first_row is_given anchor_ok dates_ok by_range by_imm out_of_range not_imm wrong_rule first_outside last_outside monthend_allowed in_days short_end anchor_rows first_rows last_rows rows_under input_rows twentieth_of moved_if skip_of to_imm_month next_twentieth previous_twentieth last_day seed_of candidate_by candidate is_past unless_same unless_past turn_of has_room_in put put_unless put_new on_turn last_try walk candidates anchor_or put_anchor zero_dates put_penultimate begun ended backward_end backward_from backward put_earlier credit_opening opening_by opening tenor_on put_seed put_first far_enough is_near coming_twentieth put_coming put_twentieth second closing_day put_closing closing opened shut forward_end forward_from forward generate_by generate third_wednesday moved each between on_first on_last on_middle wednesdays_by wednesdays unless first_move last_move month_end_move middle_move seed_asked seed_at_end adjustments meet_at_end merge_end_if merge_end meet_at_front merge_front_if merge_front without_former without_second left_beside pairs_of merged_entries entries_of_made entry_steps admitted entries_of
answers = refl
