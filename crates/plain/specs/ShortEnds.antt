-- Refusal 27 beside each other refusal of a build: the requests meet the row of 27 and that of another, and 1 to 12 come first, what the
-- steps meet afterwards. (A negative tenor, 4, is not positive.)
-- Assumes nothing.
use Rattle.std.specs.Prelude.{ℕ, ◌≡◌, refl, true, List, [], ◌∷◌}
use Rattle.refusal.specs.Answer.{Answer, refused}
use Rattle.period.specs.declared.Unit.{Unit}
use Rattle.period.specs.declared.Unit.TheVariants.{Days, Weeks}
use Rattle.date.specs.Civil.{leap, row_of, month_length, gone, sum_to, day_number, guess, years_gone, month_in, day_in, place_of, fields_at, weekday_of}
use Rattle.date.specs.Date.{in_book}
use Rattle.calendar.specs.declared.Convention.TheVariants.{Unadjusted, ModifiedPreceding}
use Rattle.calendar.specs.Open.{ascending, closed_ok, calendar_ok}
use Rattle.calendar.specs.Calendar.{longest, tenor_ok}
use Rattle.imm.specs.Imm.{is_imm_date, in_cycle, main_month}
use Rattle.steps.specs.declared.Rule.{Rule}
use Rattle.steps.specs.declared.Rule.TheVariants.{Backward, Forward, Twentieth, ThirdWednesday}
use Rattle.steps.specs.declared.Request.{Request}
use Rattle.steps.specs.Rules.{rule_number, one_of, is_zero, is_none, rule_under, rule_in_force}
use Rattle.steps.specs.Table.{number_or, first_row, is_given, anchor_ok, dates_ok, by_range, by_imm, out_of_range, not_imm, wrong_rule, first_outside, last_outside, monthend_allowed, in_days, short_end, anchor_rows, first_rows, last_rows, rows_under, input_rows}
use Rattle.steps.specs.Build.{Schedule, admitted, build_of}
use Rattle.plain.specs.Requests.{on}
use Rattle.plain.specs.Requests as requests

-- with end of month
asked : Rule → ℕ → ℕ → ℕ → Unit → ℕ → ℕ → ℕ → Request
asked rule from to length unit first penultimate mask =
    requests.asked rule Unadjusted ModifiedPreceding true from to length unit first penultimate mask

-- from 2025-01-31 to 03-31, with an anchor or two
weekly : Rule → ℕ → ℕ → Request
weekly rule first penultimate = asked rule (on 1 31) (on 3 31) 1 Weeks first penultimate 0

in_order : ◌≡◌ {A = List (Answer Schedule)}
    (build_of (weekly Backward 0 0) [] 5 4
    ∷ build_of (weekly Backward 1 0) [] 5 5
    ∷ build_of (asked Backward (on 1 31) (on 3 31) 1 Weeks 0 0 127) [] 5 5
    ∷ build_of (asked Backward (on 1 31) (on 3 31) 521 Weeks 0 0 0) [] 5 5
    ∷ build_of (weekly Backward (on 1 31) 0) [] 5 5
    ∷ build_of (weekly ThirdWednesday (on 2 3) 0) [] 5 5
    ∷ build_of (weekly Twentieth (on 2 20) 0) [] 5 5
    ∷ build_of (weekly Forward 0 (on 3 31)) [] 5 5
    ∷ build_of (weekly ThirdWednesday 0 (on 3 3)) [] 5 5
    ∷ build_of (weekly Twentieth 0 (on 3 20)) [] 5 5
    ∷ build_of (weekly Twentieth 0 0) [] 5 5
    -- none of 31 days open; no room; the end merge leaves two dates, the second not after the first
    ∷ build_of (asked Backward (on 1 31) (on 3 31) 1 Weeks 0 0 63) (on 3 2 ∷ on 3 9 ∷ on 3 16 ∷ on 3 23 ∷ on 3 30 ∷ []) 40 40
    ∷ build_of (weekly Forward 0 0) [] 0 0
    ∷ build_of (asked Forward (on 2 7) (on 2 9) 1 Days 0 0 96) [] 5 5
    -- tenors of any size
    ∷ build_of (asked Backward (on 1 31) (on 3 31) 366 Days 0 0 0) [] 5 5
    ∷ build_of (asked Forward (on 1 31) (on 3 31) 520 Weeks 0 0 0) [] 5 5
    ∷ [])
    (refused 1
    ∷ refused 2
    ∷ refused 3
    ∷ refused 5
    ∷ refused 6
    ∷ refused 7
    ∷ refused 8
    ∷ refused 9
    ∷ refused 10
    ∷ refused 11
    ∷ refused 12
    ∷ refused 27
    ∷ refused 27
    ∷ refused 27
    ∷ refused 27
    ∷ refused 27
    ∷ [])
unfolding asked weekly leap row_of month_length gone sum_to day_number guess years_gone month_in day_in place_of fields_at weekday_of in_book ascending closed_ok calendar_ok longest tenor_ok main_month in_cycle is_imm_date rule_number one_of is_zero is_none rule_under rule_in_force number_or first_row is_given anchor_ok dates_ok by_range by_imm out_of_range not_imm wrong_rule first_outside last_outside monthend_allowed in_days short_end anchor_rows first_rows last_rows rows_under input_rows admitted build_of
in_order = refl
