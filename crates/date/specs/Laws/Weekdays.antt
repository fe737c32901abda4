-- Weekdays: the week goes round, `next_weekday_of` is the first such day and `nth_weekday_of` the n-th of its month.
-- Assumes nothing.
use Prim.Native.Nat.{ℕ, zero, suc, ◌+◌, ◌-◌, ◌*◌, ◌/◌, ◌%◌, ◌≤◌, ◌<◌}
use Rattle.std.specs.Prelude.{◌≡◌, Bool, true, false, leb, eqb}
use Rattle.std.proofs.Math.Path.{refl, ap}
use Rattle.std.proofs.Common.{◌∙◌, sym, leb-true, eqb-true}
use native.Mathlib.Omega.{arith}
use Rattle.std.proofs.lemmas.Bool.{eqb-false}
use Rattle.refusal.specs.Answer.{given, BOOK}
use Rattle.refusal.specs.Laws.Answers.{need_given, then_stepped, then_given}
use Rattle.date.specs.Civil.{pick_n, weekday_of, days_until, day_number, month_length}
use Rattle.date.specs.Date.{SPAN_FIRST, SPAN_LAST, in_book, make_of, within_span, next_weekday_of, nth_weekday_of}
use Rattle.date.specs.Laws.Months.{length_le}
use Rattle.date.specs.Laws.Made.{Made, made, make_ok}
use Rattle.date.specs.Laws.Moves.{nth_of}

-- ---- the week
pub day_one_is_monday : weekday_of 1 ≡ 1
unfolding weekday_of
day_one_is_monday = refl

pub next_day_next_weekday : (n : ℕ) → weekday_of (n + 1) ≡ weekday_of n % 7 + 1
unfolding weekday_of
next_day_next_weekday n = omega arith

weekday_low : (n : ℕ) → (1 ≤ weekday_of n) × (weekday_of n ≤ 7)
unfolding weekday_of
weekday_low n = (omega arith, omega arith)

-- k days on
later : (n k : ℕ) → weekday_of (n + k) ≡ (weekday_of n - 1 + k) % 7 + 1
unfolding weekday_of
later n k = omega arith

-- ---- the days with weekday w from day n on are those a number of days on that leaves the remainder `days_until n w` by seven
module _ (a w k : ℕ) (low : 1 ≤ a) (high : a ≤ 7) (first : 1 ≤ w) (last : w ≤ 7) where
  hits : (a - 1 + k) % 7 + 1 ≡ w → k % 7 ≡ (w + 7 - a) % 7
  hits h = omega arith

  hit : k % 7 ≡ (w + 7 - a) % 7 → (a - 1 + k) % 7 + 1 ≡ w
  hit h = omega arith

module _ (n w : ℕ) (first : 1 ≤ w) (last : w ≤ 7) where
  pub has_weekday : (k : ℕ) → k % 7 ≡ days_until n w → weekday_of (n + k) ≡ w
  unfolding days_until
  has_weekday k h = later n k ∙ hit (weekday_of n) w k (weekday_low n).0 (weekday_low n).1 first last h

  pub weekday_has : (k : ℕ) → weekday_of (n + k) ≡ w → k % 7 ≡ days_until n w
  unfolding days_until
  weekday_has k h = hits (weekday_of n) w k (weekday_low n).0 (weekday_low n).1 first last (sym (later n k) ∙ h)

until_low : (n w : ℕ) → days_until n w < 7
unfolding days_until
until_low n w = omega arith

-- ---- next_weekday: it has the weekday, is not before the date, and no day between has it
pub record First (n w r : ℕ) : Type 0 where
  pub weekday : weekday_of r ≡ w
  pub not_before : n ≤ r
  pub none_between : (k : ℕ) → n ≤ k → k < r → weekday_of k ≡ w → ⊥

module _ (n w : ℕ) (first : 1 ≤ w) (last : w ≤ 7) where
  between : (k : ℕ) → n ≤ k → k < n + days_until n w → weekday_of k ≡ w → ⊥
  between k low high h =
      let e : n + (k - n) ≡ k = omega arith in
      let q = weekday_has n w first last (k - n) (rw e h) in
      omega (arith, until_low n w)

  first_such_day : First n w (n + days_until n w)
  first_such_day =
      record {
        weekday = has_weekday n w first last (days_until n w) (let l = until_low n w in omega arith);
        not_before = omega arith;
        none_between = between;
      }

span_given : (n r : ℕ) → within_span n ≡ given r → r ≡ n
unfolding within_span
span_given n r h = let q = (need_given BOOK (leb n SPAN_LAST) _ r (need_given BOOK (leb SPAN_FIRST n) _ r h).1).1 in cc

pub next_weekday_is_first : (n w r : ℕ) → next_weekday_of n w ≡ given r → First n w r
unfolding next_weekday_of
next_weekday_is_first n w r h =
    let p = need_given BOOK (leb 1 w) _ r h in
    let q = need_given BOOK (leb w 7) _ r p.1 in
    let s = need_given BOOK (in_book n) _ r q.1 in
    rw (span_given _ r s.1) (first_such_day n w (leb-true 1 w p.0) (leb-true w 7 q.0))

-- ---- nth_weekday: of the days of the month up to it, itself included, n have the weekday
-- how many of the k days from day f on have weekday w
unfoldable pub count_of : ℕ → ℕ → ℕ → ℕ
count_of w f zero = 0
count_of w f (suc k) = count_of w f k + pick_n (eqb (weekday_of (f + k)) w) 1 0

module _ (u k : ℕ) (low : u < 7) where
  counts : k % 7 ≡ u → (k + 6 - u) / 7 + 1 ≡ (suc k + 6 - u) / 7
  counts h = omega arith

  counts_not : (k % 7 ≡ u → ⊥) → (k + 6 - u) / 7 ≡ (suc k + 6 - u) / 7
  counts_not h = omega arith

module _ (f w : ℕ) (first : 1 ≤ w) (last : w ≤ 7) where
  step_count : (k : ℕ) (b : Bool) → eqb (weekday_of (f + k)) w ≡ b → (k + 6 - days_until f w) / 7 + pick_n b 1 0 ≡ (suc k + 6 - days_until f w) / 7
  step_count k true e = counts (days_until f w) k (until_low f w) (weekday_has f w first last k (eqb-true _ _ e))
  step_count k false e =
      let q = counts_not (days_until f w) k (until_low f w) (λ h. eqb-false _ _ e (has_weekday f w first last k h)) in
      omega arith

  count_is : (k : ℕ) → count_of w f k ≡ (k + 6 - days_until f w) / 7
  unfolding count_of
  count_is zero = let l = until_low f w in omega arith
  count_is (suc k) = ap (λ (x : ℕ). x + pick_n (eqb (weekday_of (f + k)) w) 1 0) (count_is k) ∙ step_count k (eqb (weekday_of (f + k)) w) refl

pub record Nth (n w m y r : ℕ) : Type 0 where
  pub from_first : day_number y m 1 ≤ r
  pub to_last : r < day_number y m 1 + month_length y m
  pub weekday : weekday_of r ≡ w
  pub count : count_of w (day_number y m 1) (suc (r - day_number y m 1)) ≡ n

from_one : (y m d : ℕ) → 1 ≤ d → day_number y m d ≡ day_number y m 1 + (d - 1)
unfolding day_number
from_one y m d h = omega arith

module _ (n w m y r f : ℕ) (a : 1 ≤ w) (b : w ≤ 7) (e : 1 ≤ n) (first : f ≡ day_number y m 1) (at : Made y m (1 + days_until f w + 7 * (n - 1)) r) where
  place : r ≡ f + (days_until f w + 7 * (n - 1))
  place =
      let q = from_one y m (1 + days_until f w + 7 * (n - 1)) (omega arith) in
      omega (arith, at.number)

  nth_at_lem : Nth n w m y r
  nth_at_lem =
      let l = until_low f w in
      let p = place in
      let gap : r - f ≡ days_until f w + 7 * (n - 1) = omega arith in
      record {
        from_first = omega arith;
        to_last = omega (arith, at.valid.last);
        weekday = rw p (has_weekday f w a b (days_until f w + 7 * (n - 1)) (omega arith));
        count = rw (← first) (rw gap (count_is f w a b (suc (days_until f w + 7 * (n - 1))) ∙ omega arith));
      }

pub nth_weekday_is_nth : (n w m y r : ℕ) → nth_weekday_of n w m y ≡ given r → Nth n w m y r
unfolding nth_weekday_of
nth_weekday_is_nth n w m y r h =
    let p₁ = need_given BOOK (leb 1 w) _ r h in
    let p₂ = need_given BOOK (leb w 7) _ r p₁.1 in
    let p₃ = need_given BOOK (leb 1 n) _ r p₂.1 in
    let p₄ = need_given BOOK (leb n 5) _ r p₃.1 in
    let s = then_stepped (make_of y m 1) _ r p₄.1 in
    nth_at_lem n w m y r s.value (leb-true 1 w p₁.0) (leb-true w 7 p₂.0) (leb-true 1 n p₃.0)
    (made y m 1 s.value s.from).number
    (made y m (1 + days_until s.value w + 7 * (n - 1)) r s.to)

-- where the month is there and has n such days, there is an answer
module _ (n w m y : ℕ) (a : 1 ≤ w) (b : w ≤ 7) (e : 1 ≤ n) (c : 1800 ≤ y) (d : y ≤ 2399) (f : 1 ≤ m) (g : m ≤ 12) where
  enough : n ≤ count_of w (day_number y m 1) (month_length y m) → 1 + days_until (day_number y m 1) w + 7 * (n - 1) ≤ month_length y m
  enough h =
      let q = count_is (day_number y m 1) w a b (month_length y m) in
      let k : n ≤ (month_length y m + 6 - days_until (day_number y m 1) w) / 7 = omega arith in
      omega arith

  pub nth_weekday_given : n ≤ count_of w (day_number y m 1) (month_length y m) → given (day_number y m (1 + days_until (day_number y m 1) w + 7 * (n - 1))) ≡ nth_weekday_of n w m y
  nth_weekday_given h =
      let k = enough h in
      let l = length_le y m in
      nth_of n w m y a b e (omega arith) _
      (then_given (make_of y m 1) (day_number y m 1) _ _ (sym (make_ok y m 1 c d f g (omega arith) (omega arith) _ refl))
      (make_ok y m _ c d f g (omega arith) k _ refl))
