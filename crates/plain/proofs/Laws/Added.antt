-- Days and months added to a date of the book: none is no step, more are a later date, and there are dates for one tenor more.
-- Assumes nothing.
use Rattle.std.specs.Prelude.{ℕ, ◌+◌, ◌*◌, ◌≤◌, ◌<◌, ◌≡◌, true, false}
use Rattle.std.proofs.Common.{ap, ◌∙◌, arith, add-zero}
use Rattle.std.proofs.Math.Path.{sym}
use Rattle.refusal.specs.Answer.{Answer, given}
use Rattle.period.specs.declared.Unit.{Unit as TimeUnit}
use Rattle.period.specs.declared.Unit.TheVariants.{Days, Weeks, Months, Years}
use Rattle.date.specs.Civil.{fields_of}
use Rattle.date.specs.Date.{SPAN_FIRST, SPAN_LAST, in_book, step, month_index, shift_days, shift_months, shifted}
use Rattle.date.specs.Laws.Round.{fields_valid}
use Rattle.date.specs.Laws.Moves.{span_in, book_from, book_le}
use Rattle.date.specs.Laws.Order.{more_months_later}
use Rattle.imm.specs.Laws.Order.{month_le}
use Rattle.calendar.specs.Calendar.{longest, tenor_ok}
use Rattle.outcomes.specs.Laws.Span.{InSpan, span_is, day_span, month_span, month_of_lem, month_there, month_zero, since}
use Rattle.plain.specs.Demand.{counted_in, count_of}
use Rattle.plain.specs.Laws.Tenor.{short}
use Rattle.plain.specs.Most.{day_or}
use Rattle.plain.proofs.Laws.Mirror.{Climb}

pub span_on : (e x : ℕ) (u : TimeUnit) (d : ℕ) → shifted e false x u ≡ given d → InSpan d
unfolding shifted shift_days shift_months
span_on e x Days d h = day_span _ d h
span_on e x Weeks d h = day_span _ d h
span_on e x Months d h = month_span _ _ d h
span_on e x Years d h = month_span _ _ d h

module _ (e t n : ℕ) (from : in_book e ≡ true) (order : e ≤ t) (to : in_book t ≡ true) where
  -- ---- days
  pub days_at : (x d : ℕ) → shifted e false x Days ≡ given d → (SPAN_FIRST ≤ e + x) × (e + x ≤ SPAN_LAST) × (d ≡ e + x)
  unfolding shifted shift_days step
  days_at x d h = span_is (e + x) d h

  pub days_are : (x : ℕ) → e + x ≤ SPAN_LAST → shifted e false x Days ≡ given (e + x)
  unfolding shifted shift_days step
  days_are x h = sym (span_in (e + x) (omega (arith, book_from e from)) h)

  days_climb : n ≤ 3640 → Climb (λ x. shifted e false x Days) e t n
  days_climb small = record {
    start = days_are 0 (omega (arith, book_le e from)) ∙ ap given (add-zero e);
    up = λ x y a b h c c'. omega (arith, days_at x a c, days_at y b c');
    near = λ m d x c o h. near m d x c o h;
    few = λ m d c o. omega (arith, days_at m d c, book_from e from, book_le t to);
    span = λ x d c. (span_on e x Days d c).high;
  }
    where
      near : (m d x : ℕ) → shifted e false m Days ≡ given d → d ≤ t → x ≤ m + n → shifted e false x Days ≡ given (day_or (shifted e false x Days))
      near m d x c o h =
          let p : shifted e false x Days ≡ given (e + x) = days_are x (omega (arith, days_at m d c, book_le t to)) in
          p ∙ ap (λ (z : Answer ℕ). given (day_or z)) (sym p)

  -- ---- months
  pub months_at : (x d : ℕ) → shifted e false x Months ≡ given d → month_index d ≡ month_index e + x
  unfolding shifted shift_months step
  months_at x d h = month_of_lem (month_index e + x) (fields_of e).day d h

  pub months_are : (x : ℕ) → month_index e + x ≤ 28799 → shifted e false x Months ≡ given (day_or (shifted e false x Months))
  unfolding shifted shift_months step
  months_are x h =
      let p = month_there (month_index e + x) (fields_of e).day (fields_valid e).first (omega (arith, (since e from).0)) h in
      rw p

  pub months_zero : shifted e false 0 Months ≡ given e
  unfolding shifted shift_months step
  months_zero = rw (add-zero (month_index e)) (month_zero e from)

  months_rise : (x y a b : ℕ) → x < y → shifted e false x Months ≡ given a → shifted e false y Months ≡ given b → a < b
  unfolding shifted
  months_rise x y a b h c c' = more_months_later e x y a b h c c'

  months_climb : n ≤ 1200 → Climb (λ x. shifted e false x Months) e t n
  months_climb small = record {
    start = months_zero;
    up = months_rise;
    near = λ m d x c o h. months_are x (omega (arith, early m d c o));
    few = λ m d c o. omega (arith, early m d c o);
    span = λ x d c. (span_on e x Months d c).high;
  }
    where
      early : (m d : ℕ) → shifted e false m Months ≡ given d → d ≤ t → month_index e + m ≤ 26399
      early m d c o = omega (arith, months_at m d c, (since t to).1, month_le d t (omega (arith, (span_on e m Months d c).low)) o)

-- ---- tenors
pub climb_of : (e t n : ℕ) (u : TimeUnit) → in_book e ≡ true → e ≤ t → in_book t ≡ true → tenor_ok n u ≡ true → Climb (λ x. shifted e false x (counted_in u)) e t (count_of u * n)
unfolding longest
climb_of e t n Days a o b h = days_climb e t (1 * n) a o b (omega (arith, short n Days h))
climb_of e t n Weeks a o b h = days_climb e t (7 * n) a o b (omega (arith, short n Weeks h))
climb_of e t n Months a o b h = months_climb e t (1 * n) a o b (omega (arith, short n Months h))
climb_of e t n Years a o b h = months_climb e t (12 * n) a o b (omega (arith, short n Years h))
