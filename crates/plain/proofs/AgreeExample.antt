-- Both directions beside each other, computed: trades on which they agree, refused ones among them, and one for each premise that is needed. The two wrong
-- statements of request L13 are false.
-- Assumes nothing.
use Rattle.std.specs.Prelude.{ℕ, ◌+◌, ◌*◌, ◌≤◌, ◌≡◌, refl, Bool, true, false, List, [], ◌∷◌, ltb, length, get_or}
use Rattle.std.proofs.Common.{ap, sym, ◌∙◌, arith}
use Rattle.refusal.specs.Answer.{Answer, given, refused, need, then}
use Rattle.date.specs.Civil.{fields_of, leap, row_of, month_length, gone, sum_to, day_number, guess, years_gone, month_in, day_in, place_of, fields_at, weekday_of, days_until}
use Rattle.date.specs.Date.{in_book, within_span, make_of, last_of_month, month_index, in_month, step, shift_days, shift_months, shifted, nth_weekday_of}
use Rattle.calendar.specs.Open.{weekly_closed, member, is_open_day, ascending, closed_ok, calendar_ok}
use Rattle.calendar.specs.AnyCalendar as any
use Rattle.calendar.specs.Adjust.{in_span, taken_or, same_month, unless_left, towards}
use Rattle.calendar.specs.Calendar.{longest, tenor_ok}
use Rattle.steps.specs.Rules.{rule_number, one_of, is_zero, is_backward, on_twentieths, in_imm_months, is_credit, is_old_cds, rule_under, is_none, rule_in_force, tenor_under, tenor_in_force, pace_by, pace_of}
use Rattle.steps.specs.Table.{number_or, first_row, is_given, anchor_ok, dates_ok, by_range, by_imm, out_of_range, not_imm, wrong_rule, first_outside, last_outside, monthend_allowed, in_days, short_end, anchor_rows, first_rows, last_rows, rows_under, input_rows}
use Rattle.steps.specs.Twentieths.{twentieth_of, moved_if, skip_of, to_imm_month, next_twentieth, previous_twentieth}
use Rattle.steps.specs.Candidates.{last_day, seed_of, candidate_by, candidate, is_past, unless_same, unless_past, turn_of}
use Rattle.steps.specs.Generate.{has_room_in, put, put_unless, put_new, on_turn, last_try, walk, candidates, anchor_or, put_anchor, zero_dates, put_penultimate, begun, ended, backward_end, backward_from, backward, put_earlier, credit_opening, opening_by, opening, tenor_on, put_seed, put_first, far_enough, is_near, coming_twentieth, put_coming, put_twentieth, second, closing_day, put_closing, closing, opened, shut, forward_end, forward_from, forward, generate_by, generate}
use Rattle.steps.specs.Finish.{third_wednesday, moved, each, between, on_first, on_last, on_middle, wednesdays_by, wednesdays, unless, first_move, last_move, month_end_move, middle_move, seed_asked, seed_at_end, adjustments, meet_at_end, merge_end_if, merge_end, meet_at_front, merge_front_if, merge_front, finish}
use Rattle.steps.specs.Build.{Schedule, steps_of, admitted, build_of}
use Rattle.imm.specs.Imm.{is_imm_date, in_cycle, main_month}
use Rattle.period.specs.declared.Unit.{Unit as TimeUnit}
use Rattle.period.specs.declared.Unit.TheVariants.{Days, Weeks, Months, Years}
use Rattle.calendar.specs.declared.Convention.{Convention}
use Rattle.calendar.specs.declared.Convention.TheVariants.{Unadjusted, Following}
use Rattle.steps.specs.declared.Rule.TheVariants.{Backward, Forward}
use Rattle.steps.specs.declared.Request.{Request}
use Rattle.plain.specs.Requests.{on}
use Rattle.plain.specs.Requests as requests
use Rattle.plain.specs.Demand.{tenors_before}
use Rattle.plain.specs.Forward.{under}
use Rattle.plain.specs.Agree.{Whole, InMonths, EarlyDay, BothAgree}

-- the rule is not read; termination is Unadjusted and there is no next-to-last date
abbrev asked : Convention → Bool → ℕ → ℕ → ℕ → ℕ → ℕ → TimeUnit → Request
asked convention monthend first mask from to length unit = requests.asked Forward convention Unadjusted monthend from to length unit first 0 mask

-- with no anchors, Unadjusted, end of month off, never closed
abbrev trade : ℕ → ℕ → ℕ → TimeUnit → Request
trade from to length unit = asked Unadjusted false 0 0 from to length unit

-- forward and backward, with so many places for dates and for flags
abbrev Ways : Type 0
Ways = Answer Schedule × Answer Schedule

abbrev lent : ℕ → ℕ → Request → Ways
lent dates flags q = (build_of (under Forward q) [] dates flags, build_of (under Backward q) [] dates flags)

abbrev ways : ℕ → Request → Ways
ways room q = lent room room q

abbrev alike : Answer Schedule → Ways
alike o = (o, o)

agreeing : ◌≡◌ {A = List Ways}
    -- four quarters from 2025-01-15, and with a place too few
    (ways 5 (trade (on 1 15) (day_number 2026 1 15) 3 Months)
    ∷ ways 4 (trade (on 1 15) (day_number 2026 1 15) 3 Months)
    -- days and weeks from the 31st, years from 02-28
    ∷ ways 3 (trade (on 1 31) (on 2 10) 5 Days)
    ∷ ways 3 (trade (on 1 31) (on 2 14) 1 Weeks)
    ∷ ways 3 (trade (on 2 28) (day_number 2029 2 28) 2 Years)
    -- the 31st to a 31st
    ∷ ways 3 (trade (on 1 31) (on 3 31) 1 Months)
    -- refused by the input checks: lent lengths, an effective date before the book, a week with no open day, a tenor over its limit
    ∷ lent 5 4 (trade (on 1 15) (day_number 2026 1 15) 3 Months)
    ∷ ways 5 (trade (day_number 1900 12 15) (day_number 1901 1 15) 1 Months)
    ∷ ways 5 (asked Unadjusted false 0 127 (on 1 15) (on 2 15) 1 Months)
    ∷ ways 5 (trade (day_number 2025 1 15) (day_number 2126 1 15) 101 Years)
    ∷ [])
    (alike (given (record { dates = on 1 15 ∷ on 4 15 ∷ on 7 15 ∷ on 10 15 ∷ day_number 2026 1 15 ∷ []; flags = 1 ∷ 1 ∷ 1 ∷ 1 ∷ []; tries = 5 }))
    ∷ alike (refused 14)
    ∷ alike (given (record { dates = on 1 31 ∷ on 2 5 ∷ on 2 10 ∷ []; flags = 1 ∷ 1 ∷ []; tries = 3 }))
    ∷ alike (given (record { dates = on 1 31 ∷ on 2 7 ∷ on 2 14 ∷ []; flags = 1 ∷ 1 ∷ []; tries = 3 }))
    ∷ alike (given (record { dates = on 2 28 ∷ day_number 2027 2 28 ∷ day_number 2029 2 28 ∷ []; flags = 1 ∷ 1 ∷ []; tries = 3 }))
    ∷ alike (given (record { dates = on 1 31 ∷ on 2 28 ∷ on 3 31 ∷ []; flags = 1 ∷ 1 ∷ []; tries = 3 }))
    ∷ alike (refused 1)
    ∷ alike (refused 2)
    ∷ alike (refused 3)
    ∷ alike (refused 5)
    ∷ [])
unfolding rule_number one_of is_zero is_backward need then leap row_of month_length gone sum_to day_number guess years_gone month_in day_in place_of fields_at weekday_of days_until in_book within_span make_of last_of_month month_index in_month step shift_days shift_months shifted nth_weekday_of weekly_closed member is_open_day ascending closed_ok calendar_ok in_span taken_or any.first_open any.found same_month unless_left any.modified any.by_convention any.adjusted any.last_open any.at_month_end towards any.open_steps any.end_asked any.landed any.add_months any.add_weeks any.by_unit any.advanced longest tenor_ok main_month in_cycle is_imm_date on_twentieths in_imm_months is_credit is_old_cds rule_under is_none rule_in_force tenor_under tenor_in_force pace_by pace_of number_or first_row is_given anchor_ok dates_ok by_range by_imm out_of_range not_imm wrong_rule first_outside last_outside monthend_allowed in_days short_end anchor_rows first_rows last_rows rows_under input_rows twentieth_of moved_if skip_of to_imm_month next_twentieth previous_twentieth last_day seed_of candidate_by candidate is_past unless_same unless_past turn_of has_room_in put put_unless put_new on_turn last_try walk candidates anchor_or put_anchor zero_dates put_penultimate begun ended backward_end backward_from backward put_earlier credit_opening opening_by opening tenor_on put_seed put_first far_enough is_near coming_twentieth put_coming put_twentieth second closing_day put_closing closing opened shut forward_end forward_from forward generate_by generate third_wednesday moved each between on_first on_last on_middle wednesdays_by wednesdays unless first_move last_move month_end_move middle_move seed_asked seed_at_end adjustments meet_at_end merge_end_if merge_end meet_at_front merge_front_if merge_front finish steps_of admitted build_of
agreeing = refl

parted : ◌≡◌ {A = List Ways}
    -- one month before 03-29 is 02-28, one month after 02-28 is 03-28
    (ways 3 (trade (on 2 28) (on 3 29) 1 Months)
    -- the 29th
    ∷ ways 3 (trade (day_number 2023 1 29) (day_number 2023 2 28) 1 Months)
    -- no whole tenors
    ∷ ways 3 (trade (on 1 1) (on 2 2) 1 Months)
    -- end of month
    ∷ ways 3 (asked Unadjusted true 0 0 (on 1 28) (on 2 28) 1 Months)
    -- a first date
    ∷ ways 3 (asked Unadjusted false (on 1 29) 0 (on 1 28) (on 2 28) 1 Months)
    -- a convention, with weekends closed
    ∷ ways 3 (asked Following false 0 96 (on 1 4) (on 1 5) 1 Days)
    ∷ [])
    ((given (record { dates = on 2 28 ∷ on 3 28 ∷ on 3 29 ∷ []; flags = 1 ∷ 0 ∷ []; tries = 2 }), given (record { dates = on 2 28 ∷ on 3 29 ∷ []; flags = 1 ∷ []; tries = 2 }))
    ∷ (given (record { dates = day_number 2023 1 29 ∷ day_number 2023 2 28 ∷ []; flags = 1 ∷ []; tries = 2 }), given (record { dates = day_number 2023 1 29 ∷ day_number 2023 2 28 ∷ []; flags = 0 ∷ []; tries = 1 }))
    ∷ (given (record { dates = on 1 1 ∷ on 2 1 ∷ on 2 2 ∷ []; flags = 1 ∷ 0 ∷ []; tries = 2 }), given (record { dates = on 1 1 ∷ on 1 2 ∷ on 2 2 ∷ []; flags = 0 ∷ 1 ∷ []; tries = 2 }))
    ∷ (given (record { dates = on 1 28 ∷ on 2 28 ∷ []; flags = 1 ∷ []; tries = 2 }), given (record { dates = on 1 28 ∷ on 1 31 ∷ on 2 28 ∷ []; flags = 0 ∷ 1 ∷ []; tries = 2 }))
    ∷ (given (record { dates = on 1 28 ∷ on 1 29 ∷ on 2 28 ∷ []; flags = 0 ∷ 1 ∷ []; tries = 2 }), given (record { dates = on 1 28 ∷ on 1 29 ∷ on 2 28 ∷ []; flags = 0 ∷ 0 ∷ []; tries = 1 }))
    ∷ (given (record { dates = on 1 5 ∷ []; flags = []; tries = 2 }), given (record { dates = on 1 6 ∷ []; flags = []; tries = 2 }))
    ∷ [])
unfolding rule_number one_of is_zero is_backward need then leap row_of month_length gone sum_to day_number guess years_gone month_in day_in place_of fields_at weekday_of days_until in_book within_span make_of last_of_month month_index in_month step shift_days shift_months shifted nth_weekday_of weekly_closed member is_open_day ascending closed_ok calendar_ok in_span taken_or any.first_open any.found same_month unless_left any.modified any.by_convention any.adjusted any.last_open any.at_month_end towards any.open_steps any.end_asked any.landed any.add_months any.add_weeks any.by_unit any.advanced longest tenor_ok main_month in_cycle is_imm_date on_twentieths in_imm_months is_credit is_old_cds rule_under is_none rule_in_force tenor_under tenor_in_force pace_by pace_of number_or first_row is_given anchor_ok dates_ok by_range by_imm out_of_range not_imm wrong_rule first_outside last_outside monthend_allowed in_days short_end anchor_rows first_rows last_rows rows_under input_rows twentieth_of moved_if skip_of to_imm_month next_twentieth previous_twentieth last_day seed_of candidate_by candidate is_past unless_same unless_past turn_of has_room_in put put_unless put_new on_turn last_try walk candidates anchor_or put_anchor zero_dates put_penultimate begun ended backward_end backward_from backward put_earlier credit_opening opening_by opening tenor_on put_seed put_first far_enough is_near coming_twentieth put_coming put_twentieth second closing_day put_closing closing opened shut forward_end forward_from forward generate_by generate third_wednesday moved each between on_first on_last on_middle wednesdays_by wednesdays unless first_move last_move month_end_move middle_move seed_asked seed_at_end adjustments meet_at_end merge_end_if merge_end meet_at_front merge_front_if merge_front finish steps_of admitted build_of
parted = refl

-- ---- the class has trades of each unit in it, and they are those above
module _ {from to length : ℕ} {unit : TimeUnit} where
  whole : {k : ℕ} → ltb 0 length ≡ true → 1 ≤ k → shifted from false (k * length) unit ≡ given to → Whole (trade from to length unit) k
  whole p s l = record { positive = p; no_first = refl; no_penultimate = refl; unadjusted = refl; unadjusted_last = refl; no_month_end = refl; some = s; leads = l }

-- four quarters, two times five days, two weeks, two times two years
pub members : Whole (trade (on 1 15) (day_number 2026 1 15) 3 Months) 4 × Whole (trade (on 1 31) (on 2 10) 5 Days) 2 × Whole (trade (on 1 31) (on 2 14) 1 Weeks) 2 × Whole (trade (on 2 28) (day_number 2029 2 28) 2 Years) 2
unfolding within_span shifted shift_days shift_months step month_index in_month make_of need leap row_of month_length gone sum_to day_number guess years_gone month_in day_in place_of fields_at
members = (whole refl (omega arith) refl, whole refl (omega arith) refl, whole refl (omega arith) refl, whole refl (omega arith) refl)

-- ---- the two wrong statements
abbrev tally : Answer Schedule → ℕ
tally (given s) = length s.dates + s.tries
tally (refused n) = 0

-- the case at place i of the list above
abbrev case : List Ways → ℕ → Ways
case l i = get_or l i (alike (refused 0))

-- 29 for 28: 2023-01-29 to 02-28
pub not_29 : BothAgree (λ q. InMonths q.tenor.unit → (fields_of q.effective.day).day ≤ 29) → ⊥
unfolding within_span shifted shift_days shift_months step month_index in_month make_of need leap row_of month_length gone sum_to day_number guess years_gone month_in day_in place_of fields_at
not_29 h =
    let f = h (trade (day_number 2023 1 29) (day_number 2023 2 28) 1 Months) 1 (whole refl (omega arith) refl) (λ i. omega arith) [] 3 3 in
    let z : ◌≡◌ {A = ℕ} 4 3 = sym (ap (λ (l : List Ways). tally (case l 1).0) parted) ∙ ap tally f ∙ ap (λ (l : List Ways). tally (case l 1).1) parted in
    omega arith

-- whole tenors read from termination back: 2025-02-28 to 03-29
pub not_backwards : ((from to length : ℕ) (unit : TimeUnit) (k : ℕ) → ltb 0 length ≡ true → 1 ≤ k → tenors_before (trade from to length unit) k ≡ given from → EarlyDay (trade from to length unit) → (room : ℕ) → (ways room (trade from to length unit)).0 ≡ (ways room (trade from to length unit)).1) → ⊥
unfolding within_span shifted shift_days shift_months step month_index in_month make_of need leap row_of month_length gone sum_to day_number guess years_gone month_in day_in place_of fields_at
not_backwards h =
    let f = h (on 2 28) (on 3 29) 1 Months 1 refl (omega arith) refl (λ i. omega arith) 3 in
    let z : ◌≡◌ {A = ℕ} 5 4 = sym (ap (λ (l : List Ways). tally (case l 0).0) parted) ∙ ap tally f ∙ ap (λ (l : List Ways). tally (case l 0).1) parted in
    omega arith
