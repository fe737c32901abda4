-- Days taken of a month: up to the 28th, its last one, and the n-th weekday by the number of its first day.
-- Assumes nothing.
use Prim.Native.Nat.{ℕ, ◌+◌, ◌-◌, ◌*◌, ◌/◌, ◌%◌, ◌≤◌, ◌<◌, min}
use mathlib.Core.Path.{◌≡◌, refl, ◌∙◌, sym}
use mathlib.Core.Bool.{Bool, true, false}
use native.Mathlib.Omega.{arith}
use lib.Dec.{ltb}
use borrow.Author.Tests.{ltb-true, ltb-false}
use Rattle.refusal.specs.Answer.{Answer, given, refused, BOOK}
use Rattle.refusal.specs.Laws.Answers.{then_given}
use Rattle.date.specs.declared.Fields.{Fields}
use Rattle.date.specs.Civil.{day_number, month_length, fields_of, days_until}
use Rattle.date.specs.Date.{make_of, within_span, in_month, last_of_month, nth_weekday_of}
use Rattle.date.specs.Laws.Months.{length_le, length_ge}
use Rattle.date.specs.Laws.Round.{Valid}
use Rattle.date.specs.Laws.Made.{made, made_within, make_early, make_day_over, make_ok}
use Rattle.date.specs.Laws.Moves.{span_in, valid_at, year_at_lem, nth_of}

-- a day up to the 28th is in every month
pub not_over : (y m d : ℕ) → d ≤ 28 → m ≤ 12 → d ≡ min d (month_length y m)
not_over y m d h i = omega (arith, length_ge y m i)

-- ---- a month's last day: every day number from 1800 on is past the month's length
last_at : (y m n : ℕ) → 1 ≤ m → m ≤ 12 → 365 * y ≤ n + 365 → (b : Bool) → ltb n 31 ≡ b → in_month (12 * y + m - 1) n ≡ make_of y m (month_length y m)
unfolding in_month
last_at y m n a h f true e =
    let i = ltb-true n 31 e in
    sym (make_early _ _ _ (omega arith)) ∙ make_early y m _ (omega arith)
last_at y m n a h f false e =
    let i = ltb-false n 31 e in
    let p : (12 * y + m - 1) / 12 ≡ y = omega arith in
    let q : (12 * y + m - 1) % 12 + 1 ≡ m = omega arith in
    let s : min n (month_length y m) ≡ month_length y m = omega (arith, length_le y m) in
    rw (p, q, s)

pub last_by : (f : Fields) (n : ℕ) → f ≡ fields_of n → in_month (12 * f.year + f.month - 1) n ≡ last_of_month n
unfolding last_of_month
last_by f n e =
    let v = valid_at f n e in
    let q = last_at f.year f.month n v.month v.twelve (year_at_lem f n e) (ltb n 31) refl in
    q ∙ rw e

-- ---- the n-th weekday: the month's first day is f, and the first such weekday u days after it
module _ (n w m y f u : ℕ) (a : 1 ≤ w) (b : w ≤ 7) (e : 1 ≤ n) (g : n ≤ 5) (first : make_of y m 1 ≡ given f) (until : u ≡ days_until f w) where
  nth_at_lem : (r : Answer ℕ) → r ≡ make_of y m (1 + u + 7 * (n - 1)) → r ≡ nth_weekday_of n w m y
  nth_at_lem r h = nth_of n w m y a b e g r (then_given _ f _ _ first (rw until at h))

  pub nth_over : month_length y m ≤ u + 7 * (n - 1) → refused BOOK ≡ nth_weekday_of n w m y
  nth_over h = nth_at_lem _ (make_day_over y m _ (omega arith))

  number : f ≡ day_number y m 1 → f + (u + 7 * (n - 1)) ≡ day_number y m (1 + u + 7 * (n - 1))
  unfolding day_number
  number h = omega arith

  pub nth_within : u + 7 * (n - 1) < month_length y m → within_span (f + (u + 7 * (n - 1))) ≡ nth_weekday_of n w m y
  nth_within h =
      let p = made y m 1 f first in
      let v = p.valid in
      let there : Valid y m (1 + u + 7 * (n - 1)) =
      record { year = v.year; month = v.month; twelve = v.twelve; first = omega arith; last = omega arith } in
      let q = number p.number in
      let s = made_within y m _ _ (record { valid = there; from_1800 = p.from_1800; to_2399 = p.to_2399; number = q }) in
      sym (span_in _ s.0 s.1)
      ∙ nth_at_lem _ (make_ok y m _ p.from_1800 p.to_2399 v.month v.twelve (omega arith) (omega arith) _ q)
