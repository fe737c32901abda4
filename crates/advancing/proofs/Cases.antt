-- The cases of request L11 hold: by the laws where their premises are met, else by computing.
-- Assumes nothing.
use Rattle.std.specs.Prelude.{refl, true, false, [], pos, negsuc}
use Rattle.std.proofs.Common.{arith}
use Rattle.refusal.specs.Answer.{need, then}
use Rattle.period.specs.declared.Unit.TheVariants.{Days, Weeks, Months, Years}
use Rattle.date.specs.Civil.{leap, row_of, month_length, gone, sum_to, day_number, guess, years_gone, month_in, day_in, place_of, fields_at}
use Rattle.date.specs.Date.{in_book, within_span, make_of, month_index, in_month, step, shift_days, shift_months, shifted, advance_of}
use Rattle.calendar.specs.declared.Convention.TheVariants.{Unadjusted, Following, Preceding, ModifiedPreceding}
use Rattle.calendar.specs.Open.{weekly_closed, member, is_open_day, ascending, closed_ok, calendar_ok}
use Rattle.calendar.specs.AnyCalendar as any
use Rattle.calendar.specs.Adjust.{in_span, taken_or, towards}
use Rattle.calendar.specs.Calendar.{longest, tenor_ok, advanced_of}
use Rattle.advancing.specs.Dates.{days_are, weeks_are, months_are, years_are, days_add, months_add}
use Rattle.advancing.specs.OpenDays.{none_negative, none_positive, open_days_return}
use Rattle.advancing.specs.Cases.{DateCases, CalendarCases, weekends, run, thirty}
use Rattle.advancing.proofs.OpenDays.{open_days_third}

pub date_cases : DateCases
unfolding need leap row_of month_length gone sum_to day_number guess years_gone month_in day_in place_of fields_at in_book within_span make_of month_index in_month step shift_days shift_months shifted advance_of
date_cases =
    record {
      from_the_31st = (refl, refl, refl);
      from_the_30th = (refl, refl);
      from_the_29th = (refl, refl);
      from_the_leap_day = (refl, refl, refl);
      out_of_the_book = (refl, refl);
      days_met = days_add Days days_are (day_number 2025 5 29) (day_number 2025 6 3) (pos 5) (negsuc 6) refl refl;
      weeks_met = days_add Weeks weeks_are (day_number 2025 5 29) (day_number 2025 5 22) (negsuc 0) (pos 3) refl refl;
      months_met = months_add Months months_are (day_number 2025 1 28) (day_number 2025 2 28) (pos 1) (negsuc 1) (omega arith) refl refl;
      years_met = months_add Years years_are (day_number 2024 2 28) (day_number 2025 2 28) (pos 1) (pos 1) (omega arith) refl refl;
    }

pub calendar_cases : CalendarCases
unfolding need then leap row_of month_length gone sum_to day_number in_book within_span step weekly_closed member is_open_day ascending closed_ok calendar_ok in_span taken_or any.first_open any.found any.by_convention any.adjusted towards any.open_steps any.by_unit any.advanced longest tenor_ok advanced_of run
calendar_cases =
    record {
      weekend_met = open_days_third weekends [] Following ModifiedPreceding false true (pos 3) (day_number 2025 5 29) (day_number 2025 6 3) refl Unadjusted false (pos 2) (day_number 2025 6 5) (none_negative refl refl) (omega arith) refl;
      weekend_met_back = open_days_third weekends [] Following Following false false (negsuc 2) (day_number 2025 6 5) (day_number 2025 6 2) refl Unadjusted false (negsuc 1) (day_number 2025 5 29) (none_positive refl refl) (omega arith) refl;
      thirty_met = open_days_return 0 thirty Following Preceding false true (pos 1) (day_number 2025 2 28) (day_number 2025 3 31) refl refl refl;
      thirty_one = (refl, refl);
      from_a_saturday = (refl, refl, refl);
      too_many = (refl, refl, refl);
      before_the_book = (refl, refl);
    }
