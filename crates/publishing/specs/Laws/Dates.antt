-- A day in eight digits reads back as that day.
-- Assumes nothing.
use Rattle.std.specs.Prelude.{ℕ, ◌+◌, ◌-◌, ◌*◌, ◌/◌, ◌%◌, ◌≤◌, ◌<◌, ◌≡◌, refl, Bool, true, false, ◌&&◌, ◌++◌, leb}
use Rattle.std.proofs.Common.{ap, ◌∙◌, arith, le-leb}
use Rattle.date.specs.Civil.{fields_of, day_number, month_length}
use Rattle.date.specs.Laws.Round.{Valid, day_of_fields, fields_valid}
use Rattle.date.specs.Laws.Months.{length_le}
use Rattle.date.specs.Laws.Moves.{year_at_lem}
use Rattle.holidays.specs.Words.{Bytes, pick}
use Rattle.holidays.specs.Content.{date}
use Rattle.holidays.specs.Dated.{all_day, are_digits, digits, number_from, exists, is_date, day_of, by_kind, CYCLE}
use Rattle.holidays.specs.Laws.Cycle.{number_again}
use Rattle.publishing.specs.File.{two_digits, date_text}

both_true : (a b : Bool) → a ≡ true → b ≡ true → (a && b) ≡ true
both_true true b p q = q
both_true false b p q = p

is_digit : (d : ℕ) → d < 10 → (leb 48 (48 + d) && leb (48 + d) 57) ≡ true
is_digit d h = both_true _ _ (le-leb 48 (48 + d) (omega arith)) (le-leb (48 + d) 57 (omega arith))

-- the last two digits of a number
last_two : (n : ℕ) → (0 * 10 + (48 + n / 10 % 10 - 48)) * 10 + (48 + n % 10 - 48) ≡ n % 100
last_two n = go (n / 10 % 10) (n % 10) (ten n)
  where
    ten : (k : ℕ) → k / 10 % 10 * 10 + k % 10 ≡ k % 100
    ten k = omega arith

    go : (a b : ℕ) → a * 10 + b ≡ n % 100 → (0 * 10 + (48 + a - 48)) * 10 + (48 + b - 48) ≡ n % 100
    go a b e = omega arith

-- eight digits of a year, a month and a day
abbrev eight : ℕ → ℕ → ℕ → Bytes
eight y m d = two_digits (y / 100) ++ two_digits y ++ two_digits m ++ two_digits d

eight_digits : (y m d : ℕ) → digits 8 (eight y m d) ≡ true
unfolding digits are_digits
eight_digits y m d =
    both_true _ _ (is_digit (y / 100 / 10 % 10) (omega arith))
    (both_true _ _ (is_digit (y / 100 % 10) (omega arith))
    (both_true _ _ (is_digit (y / 10 % 10) (omega arith))
    (both_true _ _ (is_digit (y % 10) (omega arith))
    (both_true _ _ (is_digit (m / 10 % 10) (omega arith))
    (both_true _ _ (is_digit (m % 10) (omega arith))
    (both_true _ _ (is_digit (d / 10 % 10) (omega arith))
    (both_true _ _ (is_digit (d % 10) (omega arith)) refl)))))))

pub eight_is_date : (y m d : ℕ) → y < 10000 → m < 100 → d < 100 → exists y m d ≡ true → (is_date (eight y m d) ≡ true) × (day_of (eight y m d) ≡ day_number (y + 400) m d)
unfolding is_date day_of number_from
eight_is_date y m d hy hm hd e = (both_true _ _ (eight_digits y m d) (rw (year, month, day) e), rw (year, month, day))
  where
    year : ((((0 * 10 + (48 + y / 100 / 10 % 10 - 48)) * 10 + (48 + y / 100 % 10 - 48)) * 10 + (48 + y / 10 % 10 - 48)) * 10 + (48 + y % 10 - 48)) ≡ y
    year = go (y / 100 / 10 % 10) (y / 100 % 10) (y / 10 % 10) (y % 10) (last_two (y / 100)) (last_two y)
      where
        go : (a b c k : ℕ) → (0 * 10 + (48 + a - 48)) * 10 + (48 + b - 48) ≡ y / 100 % 100 → (0 * 10 + (48 + c - 48)) * 10 + (48 + k - 48) ≡ y % 100 → (((0 * 10 + (48 + a - 48)) * 10 + (48 + b - 48)) * 10 + (48 + c - 48)) * 10 + (48 + k - 48) ≡ y
        go a b c k p q = let r : y / 100 % 100 ≡ y / 100 = omega arith in omega arith

    month : (0 * 10 + (48 + m / 10 % 10 - 48)) * 10 + (48 + m % 10 - 48) ≡ m
    month = last_two m ∙ (let r : m % 100 ≡ m = omega arith in r)

    day : (0 * 10 + (48 + d / 10 % 10 - 48)) * 10 + (48 + d % 10 - 48) ≡ d
    day = last_two d ∙ (let r : d % 100 ≡ d = omega arith in r)

valid_exists : (y m d : ℕ) → Valid y m d → exists y m d ≡ true
unfolding exists
valid_exists y m d v =
    both_true _ _ (both_true _ _ (le-leb 1 m v.month) (le-leb m 12 v.twelve)) (both_true _ _ (le-leb 1 d v.first) (le-leb d (month_length y m) v.last))

-- the day that the digits say, counted as the import counts
pub date_reads : (n : ℕ) → 1 ≤ n → n ≤ 876217 → by_kind date (date_text n) ≡ all_day (n + CYCLE)
unfolding date_text by_kind pick
date_reads n h l =
    let v = fields_valid n in
    let few : 365 * (fields_of n).year ≤ n + 365 = year_at_lem (fields_of n) n refl in
    let days : (fields_of n).day ≤ 31 = omega (arith, v.last, length_le (fields_of n).year (fields_of n).month) in
    let r = eight_is_date (fields_of n).year (fields_of n).month (fields_of n).day (omega arith) (omega (arith, v.twelve)) (omega arith) (valid_exists _ _ _ v) in
    rw (r.0, r.1) (ap all_day (number_again (fields_of n).year (fields_of n).month (fields_of n).day v.year ∙ ap (λ (k : ℕ). k + CYCLE) (day_of_fields n h)))
