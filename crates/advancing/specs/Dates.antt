-- Request L11 for dates: chained advances in days, weeks, months and years, as the public call answers them.
-- Assumes nothing.
use Rattle.std.specs.Prelude.{ℕ, ◌+◌, ◌-◌, ◌*◌, ◌/◌, ◌%◌, ◌≤◌, min, ◌≡◌, refl, Bool, true, false, leb, ℤ, nat_abs, ◌+ℤ◌}
use Rattle.std.proofs.Common.{ap, ◌∙◌, arith, leb-true}
use Rattle.std.proofs.Math.Path.{sym}
use Rattle.refusal.specs.Answer.{Answer, given, BOOK}
use Rattle.refusal.specs.Laws.Answers.{need_given, holds, one_given}
use Rattle.period.specs.Period.{is_negative}
use Rattle.period.specs.declared.Unit.{Unit}
use Rattle.period.specs.declared.Unit.TheVariants.{Days, Weeks, Months, Years}
use Rattle.date.specs.declared.Fields.{Fields}
use Rattle.date.specs.Civil.{fields_of, month_length}
use Rattle.date.specs.Date.{in_book, within_span, step, month_index, in_month, make_of, shift_days, shift_months, shifted, advance_of}
use Rattle.date.specs.Laws.Months.{length_ge}
use Rattle.date.specs.Laws.Round.{fields_valid}
use Rattle.date.specs.Laws.Made.{made}
use Rattle.date.specs.Laws.Moves.{book_from, book_le, year_at_lem}
use Rattle.date.specs.Laws.Order.{month_day_kept}
use Rattle.advancing.specs.Laws.Signs.{Sum, sum, times, steps}

-- days and weeks, which are seven days
pub data InDays : Unit → Type 0 where
  days_are : InDays Days
  weeks_are : InDays Weeks

-- months and years, which are twelve months
pub data InMonths : Unit → Type 0 where
  months_are : InMonths Months
  years_are : InMonths Years

-- ---- the public call, taken apart: a count of a unit is so many times as many days, or months
record Counts (shift : ℕ → Bool → ℕ → Answer ℕ) (u : Unit) : Type 0 where
  each : ℕ
  as_shift : (n : ℕ) (back : Bool) (k : ℕ) → shifted n back k u ≡ shift n back (each * k)

once : (k : ℕ) → k ≡ 1 * k
once k = omega arith

unfoldable in_days_lem : (u : Unit) → InDays u → Counts shift_days u
unfolding shifted
in_days_lem u days_are = record { each = 1; as_shift = λ n back k. ap (shift_days n back) (once k) }
in_days_lem u weeks_are = record { each = 7; as_shift = λ n back k. refl }

unfoldable in_months : (u : Unit) → InMonths u → Counts shift_months u
unfolding shifted
in_months u months_are = record { each = 1; as_shift = λ n back k. ap (shift_months n back) (once k) }
in_months u years_are = record { each = 12; as_shift = λ n back k. refl }

module _ {shift : ℕ → Bool → ℕ → Answer ℕ} {u : Unit} (c : Counts shift u) where
  from_book : (d m : ℕ) (a : ℤ) → advance_of d a u ≡ given m → (in_book d ≡ true) × (shift d (is_negative a) (c.each * nat_abs a) ≡ given m)
  unfolding advance_of
  from_book d m a h = let n = need_given BOOK (in_book d) _ m h in (n.0, sym (c.as_shift d _ _) ∙ n.1)

  in_book_lem : (d : ℕ) (a : ℤ) → in_book d ≡ true → advance_of d a u ≡ shift d (is_negative a) (c.each * nat_abs a)
  unfolding advance_of
  in_book_lem d a q = sym (holds BOOK (in_book d) _ _ q refl) ∙ c.as_shift d _ _

  -- counts add up where the days or months do
  add_up : (d m : ℕ) (a b : ℤ) → ((s t r : Bool) (k l j : ℕ) → Sum s k t l r j → shift d s k ≡ given m → shift m t l ≡ shift d r j) → advance_of d a u ≡ given m → in_book m ≡ true → advance_of m b u ≡ advance_of d (a +ℤ b) u
  add_up d m a b law h q =
      let n = from_book d m a h in
      in_book_lem m b q ∙ law _ _ _ _ _ _ (times c.each _ _ _ _ _ _ (sum a b)) n.1 ∙ sym (in_book_lem d (a +ℤ b) n.0)

  counted : (d e : ℕ) (a : ℤ) → ((back : Bool) (k : ℕ) → in_book d ≡ true → in_book e ≡ true → shift d back k ≡ given e → k ≤ 109207) → advance_of d a u ≡ given e → in_book e ≡ true → c.each * nat_abs a ≤ 109207
  counted d e a law h q = let n = from_book d e a h in law _ _ n.0 q n.1

-- ---- days
span_same : (x m : ℕ) → within_span x ≡ given m → (x ≡ m) × (1 ≤ x)
unfolding within_span
span_same x m h =
    let p = need_given BOOK (leb 657072 x) _ m h in
    let q = need_given BOOK (leb x 876216) (given x) m p.1 in
    (one_given _ x m refl q.1, omega (arith, leb-true 657072 x p.0))

days : (d m : ℕ) (s t r : Bool) (k l j : ℕ) → Sum s k t l r j → shift_days d s k ≡ given m → shift_days m t l ≡ shift_days d r j
unfolding shift_days
days d m s t r k l j h e =
    let q = span_same (step s d k) m e in
    ap (λ (x : ℕ). within_span (step t x l)) (sym q.0) ∙ ap within_span (steps s t r k l j d h q.1)

-- a, then b from a date of the book, is a + b: the same date, or the same refusal
pub days_add : (u : Unit) → InDays u → (d m : ℕ) (a b : ℤ) → advance_of d a u ≡ given m → in_book m ≡ true → advance_of m b u ≡ advance_of d (a +ℤ b) u
days_add u i d m a b h q = add_up (in_days_lem u i) d m a b (days d m) h q

-- ---- months: the second advance starts in the first one's month, from the day of the month that is left
pub day_of_lem : (t d n : ℕ) → in_month t d ≡ given n → (fields_of n).day ≡ min d (month_length (t / 12) (t % 12 + 1))
day_of_lem t d n h = ap (λ (x : Fields). x.day) (month_day_kept t d n h)

index_of : (n t : ℕ) → (fields_of n).year ≡ t / 12 → (fields_of n).month ≡ t % 12 + 1 → month_index n ≡ t
unfolding month_index
index_of n t y m = rw (y, m) (omega arith)

months : (d m : ℕ) (s t r : Bool) (k l j : ℕ) → Sum s k t l r j → shift_months d s k ≡ given m → shift_months m t l ≡ in_month (step r (month_index d) j) (fields_of m).day
unfolding shift_months in_month
months d m s t r k l j h e =
    let x = step s (month_index d) k in
    let f = month_day_kept x (fields_of d).day m e in
    let g = made (x / 12) (x % 12 + 1) _ m e in
    let i = index_of m x (ap (λ (y : Fields). y.year) f) (ap (λ (y : Fields). y.month) f) in
    ap (λ (y : ℕ). in_month (step t y l) (fields_of m).day) i
    ∙ ap (λ (y : ℕ). in_month y (fields_of m).day) (steps s t r k l j (month_index d) h (omega (arith, g.from_1800)))

-- where the date between has the day of the month
pub months_add_kept : (u : Unit) → InMonths u → (d m : ℕ) (a b : ℤ) → (fields_of m).day ≡ (fields_of d).day → advance_of d a u ≡ given m → in_book m ≡ true → advance_of m b u ≡ advance_of d (a +ℤ b) u
unfolding shift_months
months_add_kept u i d m a b e h q =
    add_up (in_months u i) d m a b
    (λ s t r k l j x p. months d m s t r k l j x p ∙ ap (in_month (step r (month_index d) j)) e)
    h q

kept : (d m : ℕ) (back : Bool) (k : ℕ) → shift_months d back k ≡ given m → (fields_of d).day ≤ 28 → (fields_of m).day ≡ (fields_of d).day
unfolding shift_months
kept d m back k e h =
    let t = step back (month_index d) k in
    day_of_lem t (fields_of d).day m e ∙ omega (arith, length_ge (t / 12) (t % 12 + 1) (omega arith))

-- so from a day of at most 28, which every month has
pub months_add : (u : Unit) → InMonths u → (d m : ℕ) (a b : ℤ) → (fields_of d).day ≤ 28 → advance_of d a u ≡ given m → in_book m ≡ true → advance_of m b u ≡ advance_of d (a +ℤ b) u
months_add u i d m a b e h q = months_add_kept u i d m a b (kept d m _ _ (from_book (in_months u i) d m a h).1 e) h q

-- ---- where both are answered the sum is, with the same date
answered : (m e : ℕ) (b : ℤ) (u : Unit) → advance_of m b u ≡ given e → in_book m ≡ true
unfolding advance_of
answered m e b u h = (need_given BOOK (in_book m) _ e h).0

pub days_then : (u : Unit) → InDays u → (d m e : ℕ) (a b : ℤ) → advance_of d a u ≡ given m → advance_of m b u ≡ given e → advance_of d (a +ℤ b) u ≡ given e
days_then u i d m e a b h h' = sym (add_up (in_days_lem u i) d m a b (days d m) h (answered m e b u h')) ∙ h'

pub months_then : (u : Unit) → InMonths u → (d m e : ℕ) (a b : ℤ) → (fields_of d).day ≤ 28 → advance_of d a u ≡ given m → advance_of m b u ≡ given e → advance_of d (a +ℤ b) u ≡ given e
months_then u i d m e a b f h h' =
    let k = kept d m _ _ (from_book (in_months u i) d m a h).1 f in
    sym (months_add_kept u i d m a b k h (answered m e b u h')) ∙ h'

-- ---- months from any day: the chain gives the sum's date exactly if that date's day of the month is at most the middle one's
shorter : (t d c n : ℕ) → c ≤ d → in_month t d ≡ given n → (fields_of n).day ≤ c → in_month t c ≡ given n
unfolding in_month
shorter t d c n h e f =
    let g = day_of_lem t d n e in
    let q : min c (month_length (t / 12) (t % 12 + 1)) ≡ min d (month_length (t / 12) (t % 12 + 1)) = omega arith in
    ap (make_of (t / 12) (t % 12 + 1)) q ∙ e

no_later : (d m : ℕ) (back : Bool) (k : ℕ) → shift_months d back k ≡ given m → (fields_of m).day ≤ (fields_of d).day
unfolding shift_months
no_later d m back k h = omega (arith, day_of_lem (step back (month_index d) k) (fields_of d).day m h)

pub months_add_if : (u : Unit) → InMonths u → (d m e : ℕ) (a b : ℤ) → advance_of d a u ≡ given m → in_book m ≡ true → advance_of d (a +ℤ b) u ≡ given e → (fields_of e).day ≤ (fields_of m).day → advance_of m b u ≡ given e
unfolding shift_months
months_add_if u i d m e a b p q r h =
    let c = in_months u i in
    let x = from_book c d m a p in
    let y = from_book c d e (a +ℤ b) r in
    in_book_lem c m b q
    ∙ months d m _ _ _ _ _ _ (times c.each _ _ _ _ _ _ (sum a b)) x.1
    ∙ shorter _ (fields_of d).day (fields_of m).day e (no_later d m _ _ x.1) y.1 h

pub months_add_only_if : (u : Unit) → InMonths u → (m e : ℕ) (b : ℤ) → advance_of m b u ≡ given e → (fields_of e).day ≤ (fields_of m).day
months_add_only_if u i m e b h = no_later m e _ _ (from_book (in_months u i) m e b h).1

-- ---- a sum that is answered in the book is a count that the call takes
days_count : (d e : ℕ) (back : Bool) (k : ℕ) → in_book d ≡ true → in_book e ≡ true → shift_days d back k ≡ given e → k ≤ 109207
unfolding shift_days step
days_count d e true k p q h =
    let s = span_same (d - k) e h in
    omega (arith, s.0, s.1, book_from d p, book_le d p, book_from e q, book_le e q)
days_count d e false k p q h =
    let s = span_same (d + k) e h in
    omega (arith, s.0, book_from d p, book_le d p, book_from e q, book_le e q)

count_by : (back : Bool) (i k : ℕ) → 1 ≤ step back i k → step back i k ≤ 28799 → i ≤ 30000 → k ≤ 109207
unfolding step
count_by true i k a b h = omega arith
count_by false i k a b h = omega arith

months_count : (d e : ℕ) (back : Bool) (k : ℕ) → in_book d ≡ true → in_book e ≡ true → shift_months d back k ≡ given e → k ≤ 109207
unfolding shift_months in_month month_index
months_count d e back k p q h =
    let t = step back (month_index d) k in
    let g = made (t / 12) (t % 12 + 1) _ e h in
    count_by back (month_index d) k (omega (arith, g.from_1800)) (omega (arith, g.to_2399)) (omega (arith, year_at_lem (fields_of d) d refl, book_le d p, (fields_valid d).twelve))

pub count_small : (u : Unit) (d e : ℕ) (c : ℤ) → advance_of d c u ≡ given e → in_book e ≡ true → nat_abs c ≤ 109207
unfolding in_days_lem in_months
count_small Days d e c h q = omega (arith, counted (in_days_lem Days days_are) d e c (days_count d e) h q)
count_small Weeks d e c h q = omega (arith, counted (in_days_lem Weeks weeks_are) d e c (days_count d e) h q)
count_small Months d e c h q = omega (arith, counted (in_months Months months_are) d e c (months_count d e) h q)
count_small Years d e c h q = omega (arith, counted (in_months Years years_are) d e c (months_count d e) h q)
