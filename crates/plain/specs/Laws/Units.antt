-- Days and months taken from a date of the book: none is no step, more are an earlier date, and there are dates for one tenor more.
-- Assumes nothing.
use Rattle.std.specs.Prelude.{ℕ, ◌+◌, ◌-◌, ◌≤◌, ◌<◌, ◌≡◌, true}
use Rattle.std.proofs.Common.{ap, ◌∙◌, arith}
use Rattle.std.proofs.Math.Path.{sym}
use Rattle.std.proofs.Math.Nat.{sub-zero}
use Rattle.refusal.specs.Answer.{Answer, given}
use Rattle.period.specs.declared.Unit.{Unit as TimeUnit}
use Rattle.period.specs.declared.Unit.TheVariants.{Days, Weeks, Months, Years}
use Rattle.date.specs.Civil.{fields_of}
use Rattle.date.specs.Date.{SPAN_FIRST, SPAN_LAST, in_book, step, month_index, shift_days, shift_months, shifted}
use Rattle.date.specs.Laws.Round.{fields_valid}
use Rattle.date.specs.Laws.Moves.{span_in, book_from, book_le}
use Rattle.date.specs.Laws.Order.{more_months_earlier}
use Rattle.imm.specs.Laws.Order.{month_le}
use Rattle.outcomes.specs.Laws.Span.{InSpan, span_is, day_span, month_span, month_of_lem, month_there, month_zero, since}
use Rattle.plain.specs.Most.{day_or}
use Rattle.plain.specs.Laws.Count.{Line}

pub span_of : (t x : ℕ) (u : TimeUnit) (d : ℕ) → shifted t true x u ≡ given d → InSpan d
unfolding shifted shift_days shift_months
span_of t x Days d h = day_span _ d h
span_of t x Weeks d h = day_span _ d h
span_of t x Months d h = month_span _ _ d h
span_of t x Years d h = month_span _ _ d h

module _ (e t n : ℕ) (from : in_book e ≡ true) (order : e ≤ t) (to : in_book t ≡ true) where
  -- ---- days
  days_at : (x d : ℕ) → shifted t true x Days ≡ given d → (SPAN_FIRST ≤ t - x) × (t - x ≤ SPAN_LAST) × (d ≡ t - x)
  unfolding shifted shift_days step
  days_at x d h = span_is (t - x) d h

  pub days_are : (x : ℕ) → SPAN_FIRST ≤ t - x → shifted t true x Days ≡ given (t - x)
  unfolding shifted shift_days step
  days_are x h = sym (span_in (t - x) h (omega (arith, book_le t to)))

  pub days_line : n ≤ 3640 → Line (λ x. shifted t true x Days) e t n
  days_line small = record {
    start = days_are 0 (omega (arith, book_from t to)) ∙ ap given (sub-zero t);
    down = λ x y a b h c c'. omega (arith, days_at x a c, days_at y b c');
    near = λ m d x c o h. near m d x c o h;
    few = λ m d c o. omega (arith, days_at m d c, book_from e from, book_le t to);
  }
    where
      near : (m d x : ℕ) → shifted t true m Days ≡ given d → e ≤ d → x ≤ m + n → shifted t true x Days ≡ given (day_or (shifted t true x Days))
      near m d x c o h =
          let p : shifted t true x Days ≡ given (t - x) = days_are x (omega (arith, days_at m d c, book_from e from)) in
          p ∙ ap (λ (z : Answer ℕ). given (day_or z)) (sym p)

  -- ---- months
  pub months_at : (x d : ℕ) → shifted t true x Months ≡ given d → month_index d ≡ month_index t - x
  unfolding shifted shift_months step
  months_at x d h = month_of_lem (month_index t - x) (fields_of t).day d h

  pub months_are : (x : ℕ) → 21600 ≤ month_index t - x → shifted t true x Months ≡ given (day_or (shifted t true x Months))
  unfolding shifted shift_months step
  months_are x h =
      let p = month_there (month_index t - x) (fields_of t).day (fields_valid t).first h (omega (arith, (since t to).1)) in
      rw p

  pub months_zero : shifted t true 0 Months ≡ given t
  unfolding shifted shift_months step
  months_zero = rw (sub-zero (month_index t)) (month_zero t to)

  months_fall : (x y a b : ℕ) → x < y → shifted t true x Months ≡ given a → shifted t true y Months ≡ given b → b < a
  unfolding shifted
  months_fall x y a b h c c' = more_months_earlier t x y a b h c c'

  pub months_line : n ≤ 1200 → Line (λ x. shifted t true x Months) e t n
  months_line small = record {
    start = months_zero;
    down = months_fall;
    near = λ m d x c o h. months_are x (omega (arith, late m d c o));
    few = λ m d c o. omega (arith, (since t to).1, late m d c o);
  }
    where
      late : (m d : ℕ) → shifted t true m Months ≡ given d → e ≤ d → 22812 ≤ month_index t - m
      late m d c o = omega (arith, months_at m d c, (since e from).0, month_le e d (omega (arith, book_from e from)) o)
