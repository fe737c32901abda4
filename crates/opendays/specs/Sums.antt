-- Request L9's worked sums, by computing.
-- Assumes nothing.
use Rattle.std.specs.Prelude.{ℕ, zero, suc, ◌+◌, ◌-◌, ◌≡◌, refl, true, false, List, [], ◌∷◌}
use Rattle.refusal.specs.Answer.{given, refused, need, BOOK, CALENDAR, TENOR, INDEX, SAME}
use Rattle.date.specs.Civil.{leap, row_of, gone, sum_to, day_number, guess, years_gone, month_in, day_in, place_of, fields_at}
use Rattle.date.specs.Date.{in_book}
use Rattle.calendar.specs.Open.{weekly_closed, member, is_open_day, ascending, closed_ok, calendar_ok}
use Rattle.calendar.specs.Adjust.{in_span}
use Rattle.opendays.specs.Count.{tally, open_between, on_day, nth_from, nth_open}
use Rattle.opendays.specs.Index.{year_start, count_at, counts_from, stepped, onwards}
use Rattle.opendays.specs.Index as index
use Rattle.opendays.specs.OpenDays.{indexed, count_of, nth_of, add_of, remove_of, unless_weekly, put_by, with_date, leave_by, without_date}

abbrev weekends : ℕ
weekends = 96

-- always open: the days of the years before
always : counts_from (count_at 0 []) 0 6 ≡ 0 ∷ 365 ∷ 730 ∷ 1095 ∷ 1460 ∷ 1826 ∷ []
unfolding counts_from count_at open_between tally is_open_day weekly_closed member year_start day_number gone sum_to row_of leap
always = refl

pub record CountSums : Type 0 where
  pub one : open_between weekends [] (day_number 2025 3 3) (day_number 2025 3 4) ≡ 1
  pub weekend : open_between weekends [] (day_number 2025 3 1) (day_number 2025 3 3) ≡ 0
  pub reversed : open_between weekends [] (day_number 2025 3 4) (day_number 2025 3 3) ≡ 0
  pub once : open_between weekends (day_number 2025 3 1 ∷ []) (day_number 2025 2 28) (day_number 2025 3 4) ≡ 2

pub count_sums : CountSums
unfolding open_between tally is_open_day weekly_closed member day_number gone sum_to row_of leap
count_sums = record { one = refl; weekend = refl; reversed = refl; once = refl }

pub record NthSums : Type 0 where
  pub friday : nth_open weekends [] (day_number 2025 2 28 + 1) 1 ≡ given (day_number 2025 3 3)
  pub saturday : nth_open weekends [] (day_number 2025 3 1 + 1) 1 ≡ given (day_number 2025 3 3)
  pub monday : nth_open weekends [] (day_number 2025 3 3 + 1) 1 ≡ given (day_number 2025 3 4)

pub nth_sums : NthSums
unfolding nth_open nth_from on_day is_open_day weekly_closed member day_number gone sum_to row_of leap
nth_sums = record { friday = refl; saturday = refl; monday = refl }

-- ---- the refusals in their order, on 601 zeros
abbrev zeros : List ℕ
zeros = counts_from (λ i. 0) 0 601

unfoldable pub run : ℕ → ℕ → List ℕ
run zero day = []
run (suc n) day = day ∷ run n (day + 1)

pub record OrderSums : Type 0 where
  -- all seven days closed, 600 places, day 0; then the size; then the day; then n
  pub calendar_first : nth_of 127 [] (counts_from (λ i. 0) 0 600) 0 0 ≡ refused CALENDAR
  pub then_size : (nth_of 0 [] (counts_from (λ i. 0) 0 600) 0 0 ≡ refused INDEX) × (count_of 0 [] (counts_from (λ i. 0) 0 602) 0 0 ≡ refused INDEX)
  pub then_day : (nth_of 0 [] zeros 0 0 ≡ refused BOOK) × (count_of 0 [] zeros (day_number 1900 12 31) (day_number 2025 3 3) ≡ refused BOOK)
  pub then_n : (nth_of 0 [] zeros (day_number 2025 3 3) 0 ≡ refused TENOR) × (nth_of 0 [] zeros (day_number 2025 3 3) 367 ≡ refused TENOR)
  -- a changed date lies in 1800 to 2399; closed days are not added, unlisted ones not removed
  pub outside : add_of 0 [] zeros (day_number 1800 1 1 - 1) ≡ refused BOOK
  pub same_added : (add_of weekends [] zeros (day_number 2025 3 1) ≡ refused SAME) × (add_of 0 (day_number 2025 3 3 ∷ []) zeros (day_number 2025 3 3) ≡ refused SAME)
  pub same_removed : remove_of weekends [] zeros (day_number 2025 3 1) ≡ refused SAME
  -- a listed date that is weekly closed, too, is removed, and no count changes
  pub weekly_removed : remove_of weekends (day_number 2025 3 1 ∷ []) zeros (day_number 2025 3 1) ≡ given zeros

pub order_sums : OrderSums
unfolding need indexed count_of nth_of add_of remove_of unless_weekly counts_from calendar_ok closed_ok ascending in_book in_span is_open_day weekly_closed member day_number gone sum_to row_of leap
order_sums =
    record {
      calendar_first = refl;
      then_size = (refl, refl);
      then_day = (refl, refl);
      then_n = (refl, refl);
      outside = refl;
      same_added = (refl, refl);
      same_removed = refl;
      weekly_removed = refl;
    }

-- ---- a closed run of any length is passed; the counts of which years a change touches
pub record RestSums : Type 0 where
  pub march_closed : nth_open 0 (run 31 (day_number 2025 3 1)) (day_number 2025 2 28 + 1) 1 ≡ given (day_number 2025 4 1)
  pub last_year : index.place_of (day_number 2399 12 31) ≡ 599
  pub first_year_lem : index.place_of (day_number 1800 1 1) ≡ 0
  pub changed : (onwards false 2 (5 ∷ 5 ∷ 5 ∷ 0 ∷ []) ≡ 5 ∷ 5 ∷ 4 ∷ 0 ∷ []) × (onwards true 3 (5 ∷ 5 ∷ 5 ∷ 219145 ∷ []) ≡ 5 ∷ 5 ∷ 5 ∷ 219145 ∷ [])
  pub put_in : (with_date 5 (3 ∷ 7 ∷ []) ≡ 3 ∷ 5 ∷ 7 ∷ []) × (without_date 5 (3 ∷ 5 ∷ 7 ∷ []) ≡ 3 ∷ 7 ∷ [])

pub rest_sums : RestSums
unfolding run nth_open nth_from on_day index.place_of onwards stepped with_date put_by without_date leave_by is_open_day weekly_closed member day_number gone sum_to row_of leap guess years_gone month_in day_in place_of fields_at
rest_sums =
    record {
      march_closed = refl;
      last_year = refl;
      first_year_lem = refl;
      changed = (refl, refl);
      put_in = (refl, refl);
    }
