-- The coming date, computed: the worked answers of request L2, as one list and one claim. Trade T is 3M, 2025-01-15 to 2025-12-20.
-- Assumes nothing.
use Rattle.std.specs.Prelude.{ℕ, ◌≡◌, refl, true, false, List, [], ◌∷◌, ℤ, pos, negsuc}
use Rattle.refusal.specs.Answer.{Answer, given, refused, need}
use Rattle.period.specs.declared.Unit.{Unit}
use Rattle.period.specs.declared.Unit.TheVariants.{Days, Weeks, Months}
use Rattle.date.specs.Civil.{leap, row_of, month_length, gone, sum_to, day_number, guess, years_gone, month_in, day_in, place_of, fields_at}
use Rattle.date.specs.Date.{in_book, within_span, make_of, month_index, in_month, step, shift_days, shift_months, shifted}
use Rattle.calendar.specs.declared.Convention.{Convention}
use Rattle.calendar.specs.declared.Convention.TheVariants.{Unadjusted, Following}
use Rattle.calendar.specs.Open.{ascending, closed_ok, calendar_ok}
use Rattle.calendar.specs.Calendar.{longest, tenor_ok}
use Rattle.steps.specs.declared.Rule.{Rule}
use Rattle.steps.specs.declared.Rule.TheVariants.{Zero, Backward, Forward, CDS}
use Rattle.steps.specs.declared.Request.{Request}
use Rattle.steps.specs.Rules.{rule_number, one_of, is_backward}
use Rattle.steps.specs.Table.{number_or, first_row, anchor_ok, dates_ok}
use Rattle.plain.specs.Requests.{on, request}
use Rattle.plain.specs.PlainTests.{is_unadjusted, is_straight}
use Rattle.plain.specs.Most.{months_between, most_by, most_on_by}
use Rattle.coming.specs.Coming.{Comes, begins, comes, none_comes, is_direct, asked_rows, on_or, comes_forward, flag_by, comes_backward, comes_after, unless_refused, coming_of}

-- Unadjusted, end of month off, no anchors, the weekly closed days as masked
trade : Rule → ℤ → Unit → ℕ → ℕ → ℕ → Request
trade rule length unit from to mask = request rule Unadjusted Unadjusted false from to length unit 0 0 mask

T : Rule → Request
T rule = trade rule (pos 3) Months (on 1 15) (on 12 20) 0

adjusting : Convention → Convention → Request
adjusting convention terminal = request Backward convention terminal false (on 1 15) (on 12 20) (pos 3) Months 0 0 0

anchored : ℕ → ℕ → Request
anchored first penultimate = request Backward Unadjusted Unadjusted false (on 1 15) (on 12 20) (pos 3) Months first penultimate 0

at_month_end : Rule → Unit → Request
at_month_end rule unit = request rule Unadjusted Unadjusted true (on 1 15) (on 12 20) (pos 1) unit 0 0 0

asked : Request → ℕ → Answer Comes
asked q x = coming_of q [] x

worked : ◌≡◌ {A = List (Answer Comes)}
    -- 1: what is answered
    (asked (T Backward) (on 1 14)
    ∷ asked (T Backward) (on 1 15)
    ∷ asked (T Backward) (on 3 19)
    ∷ asked (T Backward) (on 3 20)
    ∷ asked (T Backward) (on 12 19)
    ∷ asked (T Backward) (on 12 20)
    ∷ asked (T Backward) (day_number 2199 12 31)
    ∷ asked (T Forward) (on 1 14)
    ∷ asked (T Forward) (on 1 15)
    ∷ asked (T Forward) (on 10 15)
    ∷ asked (T Forward) (on 12 20)
    -- 2: days outside the book
    ∷ asked (T Backward) 0
    ∷ asked (T Backward) 693960
    ∷ asked (T Backward) 803169
    ∷ asked (anchored 1 0) (on 2 1)
    -- 3: the calendar
    ∷ asked (trade Backward (pos 3) Months (on 1 15) (on 12 20) 127) (on 2 1)
    ∷ coming_of (T Backward) (740000 ∷ 740000 ∷ []) (on 2 1)
    ∷ coming_of (T Backward) (on 3 20 ∷ []) (on 2 1)
    ∷ asked (trade Backward (pos 3) Months (on 1 15) (on 12 20) 128) (on 2 1)
    ∷ asked (trade Backward (pos 3) Months (on 1 15) (on 12 20) 255) (on 2 1)
    -- 4: the tenor given
    ∷ asked (trade Zero (pos 367) Days (on 1 15) (on 12 20) 0) (on 2 1)
    ∷ asked (trade CDS (negsuc 0) Days (on 1 15) (on 12 20) 0) (on 2 1)
    ∷ asked (trade Backward (negsuc 366) Days (on 1 15) (on 12 20) 0) (on 2 1)
    -- 5: 19 in place of 6 to 12
    ∷ asked (anchored (on 1 15) 0) (on 2 1)
    ∷ asked (at_month_end CDS Months) (on 2 1)
    ∷ asked (at_month_end Backward Weeks) (on 2 1)
    ∷ asked (trade Backward (pos 0) Days (on 1 15) (on 12 20) 0) (on 2 1)
    ∷ asked (trade Zero (pos 3) Months (on 1 15) (on 12 20) 0) (on 2 1)
    -- 6: by the fields
    ∷ asked (adjusting Following Unadjusted) (on 2 1)
    ∷ asked (adjusting Unadjusted Following) (on 2 1)
    ∷ asked (anchored (on 3 20) 0) (on 2 1)
    ∷ asked (anchored 0 (on 9 20)) (on 2 1)
    ∷ asked (trade Backward (pos 1) Months (on 3 1) (on 3 1) 0) (on 2 1)
    ∷ asked (trade Backward (pos 1) Months (on 6 1) (on 3 1) 0) (on 2 1)
    -- 8: over 4,096 dates
    ∷ asked (trade Backward (pos 1) Days 693961 803168 0) (day_number 1950 1 1)
    ∷ asked (trade Forward (pos 1) Days 693961 803168 0) (day_number 1950 1 1)
    -- 9: whole tenors, at month ends
    ∷ asked (trade Forward (pos 1) Months (on 1 31) (on 2 28) 0) (on 1 31)
    ∷ asked (trade Backward (pos 1) Months (on 1 31) (on 2 28) 0) (on 1 31)
    ∷ asked (trade Backward (pos 1) Months (on 2 28) (on 3 31) 0) (on 2 28)
    ∷ asked (trade Forward (pos 1) Months (on 2 28) (on 3 31) 0) (on 2 28)
    ∷ asked (trade Forward (pos 1) Months (on 2 28) (on 3 31) 0) (on 3 28)
    ∷ asked (trade Backward (pos 1) Months (on 1 31) (on 5 31) 0) (on 2 28)
    ∷ [])
    (given (begins (on 1 15))
    ∷ given (comes (on 3 20) 0)
    ∷ given (comes (on 3 20) 0)
    ∷ given (comes (on 6 20) 1)
    ∷ given (comes (on 12 20) 1)
    ∷ given none_comes
    ∷ given none_comes
    ∷ given (begins (on 1 15))
    ∷ given (comes (on 4 15) 1)
    ∷ given (comes (on 12 20) 0)
    ∷ given none_comes
    ∷ refused 2
    ∷ refused 2
    ∷ refused 2
    ∷ refused 2
    ∷ refused 3
    ∷ refused 3
    ∷ given (comes (on 3 20) 0)
    ∷ given (comes (on 3 20) 0)
    ∷ refused 3
    ∷ refused 5
    ∷ refused 4
    ∷ refused 4
    ∷ refused 19
    ∷ refused 19
    ∷ refused 19
    ∷ refused 19
    ∷ refused 19
    ∷ refused 19
    ∷ refused 19
    ∷ refused 19
    ∷ refused 19
    ∷ refused 19
    ∷ refused 19
    ∷ given (comes (day_number 1950 1 2) 1)
    ∷ given (comes (day_number 1950 1 2) 1)
    ∷ given (comes (on 2 28) 1)
    ∷ given (comes (on 2 28) 0)
    ∷ given (comes (on 3 31) 1)
    ∷ given (comes (on 3 28) 1)
    ∷ given (comes (on 3 31) 0)
    ∷ given (comes (on 3 31) 1)
    ∷ [])
unfolding trade T adjusting anchored at_month_end asked need leap row_of month_length gone sum_to day_number guess years_gone month_in day_in place_of fields_at in_book within_span make_of month_index in_month step shift_days shift_months shifted ascending closed_ok calendar_ok longest tenor_ok rule_number one_of is_backward number_or first_row anchor_ok dates_ok is_unadjusted months_between most_by most_on_by is_direct is_straight asked_rows on_or comes_forward flag_by comes_backward comes_after unless_refused coming_of
worked = refl
