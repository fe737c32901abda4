-- Each of the four ways to search can be refused 13, and without it the same request is given: computed. From Monday 2025-03-03 on the calendar is
-- closed for 34 days: Sundays alone are open, and the next four of them are closed.
-- Assumes nothing.
use Rattle.std.specs.Prelude.{ℕ, ◌≡◌, refl, Bool, true, false, List, [], ◌∷◌, pos}
use Rattle.refusal.specs.Answer.{number, need, then}
use Rattle.period.specs.declared.Unit.{Unit as TimeUnit}
use Rattle.period.specs.declared.Unit.TheVariants.{Days, Weeks, Months}
use Rattle.date.specs.Civil.{leap, row_of, month_length, gone, sum_to, day_number, guess, years_gone, month_in, day_in, place_of, fields_at, weekday_of}
use Rattle.date.specs.Date.{in_book, within_span, make_of, month_index, in_month, step, shift_days, shift_months, shifted}
use Rattle.calendar.specs.declared.Convention.{Convention}
use Rattle.calendar.specs.declared.Convention.TheVariants.{Unadjusted, Following}
use Rattle.calendar.specs.Open.{weekly_closed, member, is_open_day, ascending, closed_ok, calendar_ok}
use Rattle.calendar.specs.AnyCalendar as any
use Rattle.calendar.specs.Adjust.{in_span, taken_or, same_month, towards}
use Rattle.calendar.specs.Calendar.{longest, tenor_ok}
use Rattle.steps.specs.declared.Rule.{Rule}
use Rattle.steps.specs.declared.Rule.TheVariants.{Backward, Forward}
use Rattle.steps.specs.declared.Request.{Request}
use Rattle.steps.specs.Rules.{rule_number, one_of, is_zero, is_backward, on_twentieths, is_credit, is_old_cds, rule_under, is_none, rule_in_force, pace_by, pace_of}
use Rattle.steps.specs.Table.{number_or, first_row, is_given, anchor_ok, dates_ok, by_range, by_imm, out_of_range, not_imm, wrong_rule, first_outside, last_outside, monthend_allowed, in_days, short_end, anchor_rows, first_rows, last_rows, rows_under, input_rows}
use Rattle.steps.specs.Candidates.{last_day, seed_of, candidate_by, candidate, is_past, unless_same, unless_past, turn_of}
use Rattle.steps.specs.Generate.{has_room_in, put, put_unless, put_new, on_turn, last_try, walk, candidates, anchor_or, put_anchor, put_penultimate, begun, ended, backward_end, backward_from, backward, opening_by, opening, tenor_on, put_seed, put_first, put_twentieth, second, closing_day, put_closing, closing, opened, shut, forward_end, forward_from, forward, generate_by, generate}
use Rattle.steps.specs.Finish.{moved, each, between, on_first, on_last, on_middle, wednesdays_by, wednesdays, unless, first_move, last_move, month_end_move, middle_move, seed_asked, seed_at_end, adjustments, meet_at_end, merge_end_if, merge_end, meet_at_front, merge_front_if, merge_front, finish}
use Rattle.steps.specs.Build.{steps_of, admitted, build_of}

-- 2025-03-02 to 2025-03-05, 1 day, week or month, with a first date or without
asked : Rule → TimeUnit → Convention → Convention → Bool → ℕ → Request
asked rule unit convention terminal monthend first =
    record {
      effective = record { day = 739312 };
      termination = record { day = 739315 };
      tenor = record { length = pos 1; unit = unit };
      rule = rule;
      convention = convention;
      terminal = terminal;
      monthend = monthend;
      first = record { day = first };
      penultimate = record { day = 0 };
      mask = 63;
    }

-- 0 where a build is given, else its refusal
number_in : Request → ℕ
number_in q = number (build_of q (739319 ∷ 739326 ∷ 739333 ∷ 739340 ∷ []) 4096 4096)

searches_closed : ◌≡◌ {A = List ℕ}
    (number_in (asked Backward Days Unadjusted Unadjusted false 0)
    ∷ number_in (asked Backward Days Following Unadjusted false 0)
    ∷ number_in (asked Backward Days Unadjusted Following false 0)
    ∷ number_in (asked Backward Months Unadjusted Unadjusted true 0)
    ∷ number_in (asked Backward Days Unadjusted Unadjusted false 739314)
    ∷ number_in (asked Forward Days Unadjusted Unadjusted false 0)
    ∷ number_in (asked Forward Days Unadjusted Unadjusted false 739314)
    ∷ number_in (asked Forward Weeks Unadjusted Unadjusted false 739314)
    ∷ [])
    (0 ∷ 13 ∷ 13 ∷ 13 ∷ 0 ∷ 0 ∷ 13 ∷ 0 ∷ [])
unfolding asked number_in number need then leap row_of month_length gone sum_to day_number guess years_gone month_in day_in place_of fields_at weekday_of in_book within_span make_of month_index in_month step shift_days shift_months shifted weekly_closed member is_open_day ascending closed_ok calendar_ok in_span taken_or any.first_open any.found same_month any.by_convention any.adjusted any.at_month_end towards any.open_steps any.add_weeks any.by_unit any.advanced longest tenor_ok rule_number one_of is_zero is_backward on_twentieths is_credit is_old_cds rule_under is_none rule_in_force pace_by pace_of number_or first_row is_given anchor_ok dates_ok by_range by_imm out_of_range not_imm wrong_rule first_outside last_outside monthend_allowed in_days short_end anchor_rows first_rows last_rows rows_under input_rows last_day seed_of candidate_by candidate is_past unless_same unless_past turn_of has_room_in put put_unless put_new on_turn last_try walk candidates anchor_or put_anchor put_penultimate begun ended backward_end backward_from backward opening_by opening tenor_on put_seed put_first put_twentieth second closing_day put_closing closing opened shut forward_end forward_from forward generate_by generate moved each between on_first on_last on_middle wednesdays_by wednesdays unless first_move last_move month_end_move middle_move seed_asked seed_at_end adjustments meet_at_end merge_end_if merge_end meet_at_front merge_front_if merge_front finish steps_of admitted build_of
searches_closed = refl
