-- Days counted from 400 years before day 1: from year 1 on they are the day numbers and 146,097; in all years, 0000 too, a later date has a larger one.
-- Assumes nothing.
use Rattle.std.specs.Prelude.{ℕ, ◌+◌, ◌-◌, ◌*◌, ◌/◌, ◌%◌, ◌≤◌, ◌<◌, ◌≡◌, true, ◌&&◌, leb, get_or}
use Rattle.std.proofs.Common.{ap, arith, leb-true}
use Rattle.refusal.specs.Laws.Answers.{both}
use Rattle.date.specs.Civil.{leap, row_of, gone, month_length, day_number}
use Rattle.date.specs.Laws.Round.{Valid}
use Rattle.date.specs.Laws.Order.{Before, by_year, by_month, by_day, later_date_is_larger}
use Rattle.holidays.specs.Dated.{exists, CYCLE}

-- the calendar repeats itself after 400 years
pub leap_again : (y : ℕ) → leap (y + 400) ≡ leap y
unfolding leap
leap_again y =
    let a : (y + 400) % 4 ≡ y % 4 = omega arith in
    let b : (y + 400) % 100 ≡ y % 100 = omega arith in
    let c : (y + 400) % 400 ≡ y % 400 = omega arith in
    rw (a, b, c)

gone_again : (p : ℕ) → gone (p + 400) ≡ gone p + CYCLE
unfolding gone
gone_again p =
    let a : (p + 400) / 4 ≡ p / 4 + 100 = omega arith in
    let b : (p + 400) / 100 ≡ p / 100 + 4 = omega arith in
    let c : (p + 400) / 400 ≡ p / 400 + 1 = omega arith in
    rw (a, b, c) (sum p (p / 4) (p / 100) (p / 400) (few p))
  where
    few : (k : ℕ) → k / 100 ≤ k
    few k = omega arith

    sum : (k a b c : ℕ) → b ≤ k → 365 * (k + 400) + (a + 100) + (c + 1) - (b + 4) ≡ 365 * k + a + c - b + CYCLE
    sum k a b c h = omega arith

pub number_again : (y m d : ℕ) → 1 ≤ y → day_number (y + 400) m d ≡ day_number y m d + CYCLE
unfolding day_number
number_again y m d h =
    let e : y + 400 - 1 ≡ y - 1 + 400 = omega arith in
    rw (e, leap_again y) (omega (arith, gone_again (y - 1)))

-- a date that exists is one that exists 400 years on
exists_valid : (y m d : ℕ) → exists y m d ≡ true → Valid (y + 400) m d
unfolding exists month_length
exists_valid y m d h =
    let p = both (leb 1 m && leb m 12) (leb 1 d && leb d (get_or (row_of (leap y)) (m - 1) 0)) h in
    let q = both (leb 1 m) (leb m 12) p.0 in
    let r = both (leb 1 d) (leb d (get_or (row_of (leap y)) (m - 1) 0)) p.1 in
    let l : d ≤ get_or (row_of (leap y)) (m - 1) 0 = leb-true d _ r.1 in
    record {
      year = omega arith;
      month = leb-true 1 m q.0;
      twelve = leb-true m 12 q.1;
      first = leb-true 1 d r.0;
      last = rw (leap_again y) l;
    }

before_again : (y m d y' m' d' : ℕ) → Before y m d y' m' d' → Before (y + 400) m d (y' + 400) m' d'
before_again y m d y' m' d' (by_year h) = by_year (omega arith)
before_again y m d y' m' d' (by_month e h) = by_month (ap (λ (k : ℕ). k + 400) e) h
before_again y m d y' m' d' (by_day e g h) = by_day (ap (λ (k : ℕ). k + 400) e) g h

-- so an end is after its start by number exactly as by date
pub later_is_larger : (y m d y' m' d' : ℕ) → exists y m d ≡ true → exists y' m' d' ≡ true → Before y m d y' m' d' → day_number (y + 400) m d < day_number (y' + 400) m' d'
later_is_larger y m d y' m' d' p q b =
    later_date_is_larger (y + 400) m d (y' + 400) m' d' (exists_valid y m d p) (exists_valid y' m' d' q) (before_again y m d y' m' d' b)
