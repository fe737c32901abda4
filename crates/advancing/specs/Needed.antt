-- No premise of the laws of request L11 can go: what a law would claim without it, or with 29 for 28, is false.
-- Assumes nothing.
use Rattle.std.specs.Prelude.{ℕ, ◌≤◌, ◌≡◌, refl, Bool, true, false, List, [], ℤ, pos, negsuc, neg_ℤ, nat_abs, ◌+ℤ◌}
use Rattle.std.proofs.Common.{sym, arith}
use Rattle.refusal.specs.Answer.{Answer, given, need, then, BOOK, TENOR}
use Rattle.refusal.specs.Laws.Answers.{one_given, never_both}
use Rattle.period.specs.declared.Unit.{Unit}
use Rattle.period.specs.declared.Unit.TheVariants.{Days, Months, Years}
use Rattle.date.specs.Civil.{leap, row_of, month_length, gone, sum_to, day_number, guess, years_gone, month_in, day_in, place_of, fields_at, fields_of}
use Rattle.date.specs.Date.{in_book, within_span, make_of, month_index, in_month, step, shift_days, shift_months, shifted, advance_of}
use Rattle.calendar.specs.declared.Convention.{Convention}
use Rattle.calendar.specs.declared.Convention.TheVariants.{Following}
use Rattle.calendar.specs.Open.{weekly_closed, member, is_open_day, ascending, closed_ok, calendar_ok}
use Rattle.calendar.specs.AnyCalendar as any
use Rattle.calendar.specs.Adjust.{in_span, taken_or, towards}
use Rattle.calendar.specs.Calendar.{longest, tenor_ok, advanced_of}
use Rattle.advancing.specs.OpenDays.{Like, none_negative, none_positive}

-- ---- the laws, with other premises P of the start and the date between
unfoldable pub DatesAdd : Unit → (ℕ → ℕ → Type 0) → Type 0
DatesAdd u P = (d m : ℕ) (a b : ℤ) → P d m → advance_of d a u ≡ given m → advance_of m b u ≡ advance_of d (a +ℤ b) u

unfoldable pub OpenDaysAdd : (ℕ → List ℕ → ℤ → ℤ → ℕ → ℕ → Type 0) → Type 0
OpenDaysAdd P = (mask : ℕ) (closed : List ℕ) (v : Convention) (e : Bool) (a b : ℤ) (day new : ℕ) → P mask closed a b day new → advanced_of mask closed a Days v e day ≡ given new → advanced_of mask closed b Days v e new ≡ advanced_of mask closed (a +ℤ b) Days v e day

unfoldable pub OpenDaysReturn : (ℕ → List ℕ → ℕ → ℕ → Type 0) → Type 0
OpenDaysReturn P = (mask : ℕ) (closed : List ℕ) (v : Convention) (e : Bool) (a : ℤ) (day new : ℕ) → P mask closed day new → advanced_of mask closed a Days v e day ≡ given new → advanced_of mask closed (neg_ℤ a) Days v e new ≡ given day

pub record Needed : Type 0 where
  -- the date between lies in the book: 2199-12-31, a day and then none
  pub book_needed : DatesAdd Days (λ d m. in_book d ≡ true) → ⊥
  -- the day of the month is at most 28, and not 29: 2025-01-29, a month and a month; 2024-02-29, a year back and a year on
  pub day_needed : DatesAdd Months (λ d m. ((fields_of d).day ≤ 29) × (in_book m ≡ true)) → ⊥
  pub day_needed_years : DatesAdd Years (λ d m. ((fields_of d).day ≤ 29) × (in_book m ≡ true)) → ⊥
  -- the signs are like: from a Saturday, one on and one back
  pub like_needed : OpenDaysAdd (λ mask closed a b day new. (in_book new ≡ true) × (nat_abs b ≤ 366) × (nat_abs (a +ℤ b) ≤ 366)) → ⊥
  -- the sum is at most 366: 366 and 1; from an open day and with other signs the second count is too: one on and 367 back
  pub size_needed : OpenDaysAdd (λ mask closed a b day new. Like a b × (in_book new ≡ true)) → ⊥
  pub second_size_needed : OpenDaysAdd (λ mask closed a b day new. (is_open_day mask closed day ≡ true) × (in_book new ≡ true) × (nat_abs (a +ℤ b) ≤ 366)) → ⊥
  -- the day between lies in the book: 1901-01-01, one back and then none
  pub open_book_needed : OpenDaysAdd (λ mask closed a b day new. Like a b × (nat_abs (a +ℤ b) ≤ 366)) → ⊥
  -- the return starts from an open day, and the day between lies in the book: the same Saturday, and the same day of 1901
  pub open_needed : OpenDaysReturn (λ mask closed day new. in_book new ≡ true) → ⊥
  pub return_book_needed : OpenDaysReturn (λ mask closed day new. is_open_day mask closed day ≡ true) → ⊥

-- one answer does not give two numbers
apart : (m n : ℕ) → ◌≡◌ {A = Answer ℕ} (given m) (given n) → m ≡ n
apart m n h = one_given (given m) m n refl h

pub needed : Needed
unfolding DatesAdd OpenDaysAdd OpenDaysReturn need then leap row_of month_length gone sum_to day_number guess years_gone month_in day_in place_of fields_at in_book within_span make_of month_index in_month step shift_days shift_months shifted advance_of weekly_closed member is_open_day ascending closed_ok calendar_ok in_span taken_or any.first_open any.found any.by_convention any.adjusted towards any.open_steps any.by_unit any.advanced longest tenor_ok advanced_of
needed =
    record {
      book_needed = λ f. never_both _ (day_number 2200 1 1) BOOK refl (sym (f (day_number 2199 12 31) (day_number 2200 1 1) (pos 1) (pos 0) refl refl));
      day_needed = λ f. let e = apart (day_number 2025 3 28) (day_number 2025 3 29) (f (day_number 2025 1 29) (day_number 2025 2 28) (pos 1) (pos 1) (omega arith, refl) refl) in omega arith;
      day_needed_years = λ f. let e = apart (day_number 2024 2 28) (day_number 2024 2 29) (f (day_number 2024 2 29) (day_number 2023 2 28) (negsuc 0) (pos 1) (omega arith, refl) refl) in omega arith;
      like_needed = λ f. let e = apart (day_number 2025 5 30) (day_number 2025 5 31) (f 96 [] Following false (pos 1) (negsuc 0) (day_number 2025 5 31) (day_number 2025 6 2) (refl, omega arith, omega arith) refl) in omega arith;
      size_needed = λ f. never_both _ (day_number 2026 1 3) TENOR refl (f 0 [] Following false (pos 366) (pos 1) (day_number 2025 1 1) (day_number 2026 1 2) (none_negative refl refl, refl) refl);
      second_size_needed = λ f. never_both _ (day_number 2024 1 1) TENOR refl (sym (f 0 [] Following false (pos 1) (negsuc 366) (day_number 2025 1 1) (day_number 2025 1 2) (refl, refl, omega arith) refl));
      open_book_needed = λ f. never_both _ (day_number 1900 12 31) BOOK refl (sym (f 96 [] Following false (negsuc 0) (pos 0) (day_number 1901 1 1) (day_number 1900 12 31) (none_positive refl refl, omega arith) refl));
      open_needed = λ f. let e = apart (day_number 2025 5 30) (day_number 2025 5 31) (f 96 [] Following false (pos 1) (day_number 2025 5 31) (day_number 2025 6 2) refl refl) in omega arith;
      return_book_needed = λ f. never_both _ (day_number 1901 1 1) BOOK (f 96 [] Following false (negsuc 0) (day_number 1901 1 1) (day_number 1900 12 31) refl refl) refl;
    }
