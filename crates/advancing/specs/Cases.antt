-- Cases of request L11: each law with its premises met, and what is answered where a premise is not.
-- Assumes nothing.
use Rattle.std.specs.Prelude.{ℕ, zero, suc, ◌+◌, ◌≡◌, true, false, List, [], ◌∷◌, pos, negsuc, ◌+ℤ◌}
use Rattle.refusal.specs.Answer.{given, refused, BOOK, TENOR, CLOSED}
use Rattle.period.specs.declared.Unit.TheVariants.{Days, Weeks, Months, Years}
use Rattle.date.specs.Civil.{day_number}
use Rattle.date.specs.Date.{advance_of}
use Rattle.calendar.specs.declared.Convention.TheVariants.{Unadjusted, Following, Preceding}
use Rattle.calendar.specs.Calendar.{advanced_of}

-- ---- dates
pub record DateCases : Type 0 where
  -- a month and a month against two: from the 31st, the 30th and the 29th
  pub from_the_31st : (advance_of (day_number 2025 1 31) (pos 1) Months ≡ given (day_number 2025 2 28)) × (advance_of (day_number 2025 2 28) (pos 1) Months ≡ given (day_number 2025 3 28)) × (advance_of (day_number 2025 1 31) (pos 2) Months ≡ given (day_number 2025 3 31))
  pub from_the_30th : (advance_of (day_number 2025 1 30) (pos 1) Months ≡ given (day_number 2025 2 28)) × (advance_of (day_number 2025 1 30) (pos 2) Months ≡ given (day_number 2025 3 30))
  pub from_the_29th : (advance_of (day_number 2025 1 29) (pos 1) Months ≡ given (day_number 2025 2 28)) × (advance_of (day_number 2025 1 29) (pos 2) Months ≡ given (day_number 2025 3 29))
  -- a year back and one on against none
  pub from_the_leap_day : (advance_of (day_number 2024 2 29) (negsuc 0) Years ≡ given (day_number 2023 2 28)) × (advance_of (day_number 2023 2 28) (pos 1) Years ≡ given (day_number 2024 2 28)) × (advance_of (day_number 2024 2 29) (pos 0) Years ≡ given (day_number 2024 2 29))
  -- a date between that lies outside the book is refused where the sum is answered
  pub out_of_the_book : (advance_of (day_number 2199 12 31) (pos 1) Days ≡ given (day_number 2200 1 1)) × (advance_of (day_number 2200 1 1) (pos 0) Days ≡ refused BOOK)
  -- the laws at a date each: five days on and seven back, a week back and three on, a month on and two back, a year on and one on
  pub days_met : advance_of (day_number 2025 6 3) (negsuc 6) Days ≡ advance_of (day_number 2025 5 29) (pos 5 +ℤ negsuc 6) Days
  pub weeks_met : advance_of (day_number 2025 5 22) (pos 3) Weeks ≡ advance_of (day_number 2025 5 29) (negsuc 0 +ℤ pos 3) Weeks
  pub months_met : advance_of (day_number 2025 2 28) (negsuc 1) Months ≡ advance_of (day_number 2025 1 28) (pos 1 +ℤ negsuc 1) Months
  pub years_met : advance_of (day_number 2025 2 28) (pos 1) Years ≡ advance_of (day_number 2024 2 28) (pos 1 +ℤ pos 1) Years

-- ---- open days
abbrev pub weekends : ℕ
weekends = 96

-- as many days as said, from a day on
unfoldable pub run : ℕ → ℕ → List ℕ
run zero day = []
run (suc n) day = day ∷ run n (day + 1)

-- thirty closed days from 2025-03-01, and one more
abbrev pub thirty : List ℕ
thirty = run 30 (day_number 2025 3 1)

abbrev pub march : List ℕ
march = run 31 (day_number 2025 3 1)

pub record CalendarCases : Type 0 where
  -- three and two over a weekend are five, and so back
  pub weekend_met : advanced_of weekends [] (pos 3 +ℤ pos 2) Days Unadjusted false (day_number 2025 5 29) ≡ given (day_number 2025 6 5)
  pub weekend_met_back : advanced_of weekends [] (negsuc 2 +ℤ negsuc 1) Days Unadjusted false (day_number 2025 6 5) ≡ given (day_number 2025 5 29)
  -- over thirty closed days and back, 31 apart; over thirty-one neither way
  pub thirty_met : advanced_of 0 thirty (negsuc 0) Days Preceding true (day_number 2025 3 31) ≡ given (day_number 2025 2 28)
  pub thirty_one : (advanced_of 0 march (pos 1) Days Following false (day_number 2025 2 28) ≡ refused CLOSED) × (advanced_of 0 march (negsuc 0) Days Following false (day_number 2025 4 1) ≡ refused CLOSED)
  -- from a Saturday one on is Monday and one back from there Friday, and none is Saturday
  pub from_a_saturday : (advanced_of weekends [] (pos 1) Days Following false (day_number 2025 5 31) ≡ given (day_number 2025 6 2)) × (advanced_of weekends [] (negsuc 0) Days Following false (day_number 2025 6 2) ≡ given (day_number 2025 5 30)) × (advanced_of weekends [] (pos 0) Days Following false (day_number 2025 5 31) ≡ given (day_number 2025 5 31))
  -- a sum over 366 is refused, though both parts are answered
  pub too_many : (advanced_of 0 [] (pos 366) Days Following false (day_number 2025 1 1) ≡ given (day_number 2026 1 2)) × (advanced_of 0 [] (pos 1) Days Following false (day_number 2026 1 2) ≡ given (day_number 2026 1 3)) × (advanced_of 0 [] (pos 367) Days Following false (day_number 2025 1 1) ≡ refused TENOR)
  -- a day between that lies outside the book
  pub before_the_book : (advanced_of weekends [] (negsuc 0) Days Following false (day_number 1901 1 1) ≡ given (day_number 1900 12 31)) × (advanced_of weekends [] (pos 0) Days Following false (day_number 1900 12 31) ≡ refused BOOK)
