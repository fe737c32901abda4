-- The third Wednesday of a month is its only IMM date.
-- Assumes nothing.
use Rattle.std.specs.Prelude.{ℕ, ◌+◌, ◌-◌, ◌*◌, ◌≤◌, ◌≡◌, refl, Bool, true, false, ◌&&◌, eqb, leb}
use Rattle.std.proofs.Common.{ap, sym, ◌∙◌, arith, le-leb, leb-true, eq-eqb, eqb-true}
use Rattle.refusal.specs.Answer.{given, need, then}
use Rattle.refusal.specs.Laws.Answers.{then_given, both}
use Rattle.date.specs.Civil.{leap, row_of, gone, sum_to, day_number, fields_of, weekday_of, days_until}
use Rattle.date.specs.Date.{make_of, nth_weekday_of}
use Rattle.date.specs.Laws.Round.{Valid, fields_of_day, day_of_fields}
use Rattle.date.specs.Laws.Made.{make_ok, made}
use Rattle.date.specs.Laws.Moves.{nth_of, until_at}
use Rattle.imm.specs.Imm.{in_cycle, is_imm_date, third_wednesday}
use Rattle.date.specs.Laws.Months.{length_ge}
use Rattle.imm.specs.Laws.Order.{then_gives}

-- ---- the parts of the test
pub record Imm (main : Bool) (n : ℕ) : Type 0 where
  pub weekday : weekday_of n ≡ 3
  pub from_15 : 15 ≤ (fields_of n).day
  pub to_21 : (fields_of n).day ≤ 21
  pub cycle : in_cycle main (fields_of n).month ≡ true

pub imm_parts : (main : Bool) (n : ℕ) → is_imm_date main n ≡ true → Imm main n
unfolding is_imm_date
imm_parts main n h =
    let a = eqb (weekday_of n) 3 in
    let b = leb 15 (fields_of n).day in
    let l = leb (fields_of n).day 21 in
    let p = (both (a && b && l) (in_cycle main (fields_of n).month) h).0 in
    let q = (both (a && b) l p).0 in
    record {
      weekday = eqb-true (weekday_of n) 3 (both a b q).0;
      from_15 = leb-true 15 (fields_of n).day (both a b q).1;
      to_21 = leb-true (fields_of n).day 21 (both (a && b) l p).1;
      cycle = (both (a && b && l) (in_cycle main (fields_of n).month) h).1;
    }

pub parts_imm : (main : Bool) (n : ℕ) → Imm main n → is_imm_date main n ≡ true
unfolding is_imm_date
parts_imm main n p =
    simp (eq-eqb (weekday_of n) 3 p.weekday, le-leb 15 (fields_of n).day p.from_15, le-leb (fields_of n).day 21 p.to_21, p.cycle)

-- day 0, no date, is no IMM date
pub imm_positive : (main : Bool) (n : ℕ) → Imm main n → 1 ≤ n
unfolding weekday_of
imm_positive main n p = omega (arith, p.weekday)

-- ---- the third Wednesday
unfoldable pub third_day : ℕ → ℕ → ℕ
third_day y m = 1 + days_until (day_number y m 1) 3 + 7 * 2

unfoldable pub third : ℕ → ℕ → ℕ
third y m = day_number y m (third_day y m)

pub third_days : (y m : ℕ) → (15 ≤ third_day y m) × (third_day y m ≤ 21)
unfolding third_day
third_days y m = (omega arith, omega (arith, until_at (days_until (day_number y m 1) 3) (day_number y m 1) 3 refl))

pub third_valid : (y m : ℕ) → 1 ≤ y → 1 ≤ m → m ≤ 12 → Valid y m (third_day y m)
third_valid y m a b e =
    record { year = a; month = b; twelve = e; first = omega (arith, (third_days y m).0); last = omega (arith, (third_days y m).1, length_ge y m e) }

pub third_fields : (y m : ℕ) → 1 ≤ y → 1 ≤ m → m ≤ 12 → fields_of (third y m) ≡ record { year = y; month = m; day = third_day y m }
unfolding third
third_fields y m a b e = fields_of_day y m (third_day y m) (third_valid y m a b e)

wednesday : (b : ℕ) → weekday_of (b + (1 + days_until (b + 1) 3 + 7 * 2)) ≡ 3
unfolding weekday_of days_until
wednesday b = omega arith

only_wednesday : (b d : ℕ) → weekday_of (b + d) ≡ 3 → 15 ≤ d → d ≤ 21 → d ≡ 1 + days_until (b + 1) 3 + 7 * 2
unfolding weekday_of days_until
only_wednesday b d h p q = omega arith

third_weekday : (y m : ℕ) → weekday_of (third y m) ≡ 3
unfolding third third_day day_number
third_weekday y m = wednesday (gone (y - 1) + sum_to (row_of (leap y)) (m - 1))

pub third_imm : (main : Bool) (y m : ℕ) → 1 ≤ y → 1 ≤ m → m ≤ 12 → in_cycle main m ≡ true → is_imm_date main (third y m) ≡ true
third_imm main y m a b e i =
    let f = third_fields y m a b e in
    parts_imm main (third y m)
    (record {
      weekday = third_weekday y m;
      from_15 = rw f (third_days y m).0;
      to_21 = rw f (third_days y m).1;
      cycle = rw f i;
    })

-- an IMM date is the third Wednesday of its month
only_day : (y m d : ℕ) → weekday_of (day_number y m d) ≡ 3 → 15 ≤ d → d ≤ 21 → d ≡ third_day y m
unfolding third_day day_number
only_day y m d h p q = only_wednesday (gone (y - 1) + sum_to (row_of (leap y)) (m - 1)) d h p q

pub imm_third : (main : Bool) (n : ℕ) → is_imm_date main n ≡ true → n ≡ third (fields_of n).year (fields_of n).month
unfolding third
imm_third main n h =
    let p = imm_parts main n h in
    let f = day_of_fields n (imm_positive main n p) in
    let w : weekday_of (day_number (fields_of n).year (fields_of n).month (fields_of n).day) ≡ 3 = rw f p.weekday in
    let d = only_day (fields_of n).year (fields_of n).month (fields_of n).day w p.from_15 p.to_21 in
    sym f ∙ ap (λ (k : ℕ). day_number (fields_of n).year (fields_of n).month k) d

-- ---- what `nth_weekday` answers
pub third_given : (y m : ℕ) → 1800 ≤ y → y ≤ 2399 → 1 ≤ m → m ≤ 12 → given (third y m) ≡ third_wednesday m y
unfolding third third_day
third_given y m a b e f =
    let v = third_valid y m (omega arith) e f in
    let l = length_ge y m f in
    nth_of 3 3 m y (omega arith) (omega arith) (omega arith) (omega arith) _
    (then_given (make_of y m 1) (day_number y m 1) _ _ (sym (make_ok y m 1 a b e f (omega arith) (omega arith) _ refl))
    (make_ok y m (1 + days_until (day_number y m 1) 3 + 7 * 2) a b e f v.first v.last _ refl))

pub record Third (y m d : ℕ) : Type 0 where
  pub from_1800 : 1800 ≤ y
  pub to_2399 : y ≤ 2399
  pub month : 1 ≤ m
  pub twelve : m ≤ 12
  pub day : d ≡ third y m

third_is_go : (y m d : ℕ) → then (make_of y m 1) (λ first. make_of y m (1 + days_until first 3 + 7 * 2)) ≡ given d → third_wednesday m y ≡ given d → Third y m d
third_is_go y m d h g =
    let p = then_gives (make_of y m 1) (λ first. make_of y m (1 + days_until first 3 + 7 * 2)) d h in
    let q = made y m 1 p.0 p.1.0 in
    let e : given d ≡ given (third y m) = sym g ∙ sym (third_given y m q.from_1800 q.to_2399 q.valid.month q.valid.twelve) in
    record { from_1800 = q.from_1800; to_2399 = q.to_2399; month = q.valid.month; twelve = q.valid.twelve; day = cc }

pub third_is : (y m d : ℕ) → third_wednesday m y ≡ given d → Third y m d
unfolding nth_weekday_of need
third_is y m d h = third_is_go y m d h h

-- the third Wednesday of a month is an IMM date, and the month has no other
pub only_imm : (y m d : ℕ) → third_wednesday m y ≡ given d → (is_imm_date false d ≡ true) × ((e : ℕ) → is_imm_date false e ≡ true → (fields_of e).year ≡ y → (fields_of e).month ≡ m → e ≡ d)
unfolding in_cycle
only_imm y m d h =
    let t = third_is y m d h in (
      rw t.day (third_imm false y m (omega arith) t.month t.twelve refl),
      λ e i p q. imm_third false e i ∙ rw (p, q) (sym t.day),
    )
