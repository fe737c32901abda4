-- The most days or months that can be added to a date without passing a later one, by a sum.
-- Assumes nothing.
use Rattle.std.specs.Prelude.{ℕ, ◌+◌, ◌-◌, ◌≤◌, ◌<◌, ◌≡◌, Bool, true, false, ltb}
use Rattle.std.proofs.Common.{zero-le, ap, sym, ◌∙◌, ⊎_elim, eq-or-lt_of_le, arith, ltb-true, ltb-false}
use Rattle.std.proofs.Math.Path.{refl}
use Rattle.refusal.specs.Answer.{given}
use Rattle.period.specs.declared.Unit.{Unit as TimeUnit}
use Rattle.period.specs.declared.Unit.TheVariants.{Days, Weeks, Months, Years}
use Rattle.date.specs.Civil.{pick_n}
use Rattle.date.specs.Date.{in_book, month_index, shifted}
use Rattle.date.specs.Laws.Moves.{book_from, book_le}
use Rattle.imm.specs.Laws.Order.{month_le}
use Rattle.outcomes.specs.Laws.Span.{le_or_lt, since}
use Rattle.plain.specs.Demand.{counted_in}
use Rattle.plain.specs.Forward.{MostAdded}
use Rattle.plain.specs.Most.{day_or, months_between, most_on_by}
use Rattle.plain.proofs.Laws.Added.{span_on, days_at, days_are, months_at, months_are, months_zero}

module _ (e x : ℕ) (from : in_book e ≡ true) (order : e ≤ x) (to : in_book x ≡ true) where
  by_days : MostAdded (λ y. shifted e false y Days) x (x - e)
  by_days = record {
    day = e + (x - e);
    can_be_added = days_are e x 1 from order to (x - e) (omega (arith, book_le x to));
    not_passing = omega arith;
    no_more = λ y d g i. omega (arith, days_at e x 1 from order to y d g);
  }

  abbrev gap : ℕ
  gap = month_index x - month_index e

  abbrev on : ℕ → ℕ
  on y = day_or (shifted e false y Months)

  ordered : month_index e ≤ month_index x
  ordered = month_le e x (omega (arith, book_from e from)) order

  there : (y : ℕ) → y ≤ gap → shifted e false y Months ≡ given (on y)
  there y h = months_are e x 1 from order to y (omega (arith, ordered, (since x to).1))

  at_most : (y d : ℕ) → shifted e false y Months ≡ given d → d ≤ x → y ≤ gap
  at_most y d g i = omega (arith, months_at e x 1 from order to y d g, month_le d x (omega (arith, (span_on e y Months d g).low)) i)

  by_months : (b : Bool) → ltb x (on gap) ≡ b → MostAdded (λ y. shifted e false y Months) x (pick_n b (gap - 1) gap)
  by_months false h = record { day = on gap; can_be_added = there gap (omega arith); not_passing = ltb-false _ _ h; no_more = at_most }
  by_months true h = record { day = on (gap - 1); can_be_added = there (gap - 1) (omega arith); not_passing = sooner; no_more = λ y d g i. less y d g i }
    where
      past : x < on gap
      past = ltb-true _ _ h

      none : gap ≡ 0 → ⊥
      none z = let y : on gap ≡ e = ap on z ∙ ap day_or (months_zero e x 1 from order to) in omega (arith, past)

      some : 1 ≤ gap
      some = ⊎_elim (λ (z : 0 ≡ gap). absurd (none (sym z))) (λ (z : 0 < gap). z) (eq-or-lt_of_le zero-le)

      sooner : on (gap - 1) ≤ x
      sooner = ⊎_elim (λ (i : on (gap - 1) ≤ x). i) (λ (i : x < on (gap - 1)). absurd (no (month_le x (on (gap - 1)) (omega (arith, book_from x to)) (omega arith)))) (le_or_lt (on (gap - 1)) x)
        where
          no : month_index x ≤ month_index (on (gap - 1)) → ⊥
          no i = omega (arith, some, ordered, months_at e x 1 from order to (gap - 1) (on (gap - 1)) (there (gap - 1) (omega arith)))

      less : (y d : ℕ) → shifted e false y Months ≡ given d → d ≤ x → y ≤ gap - 1
      less y d g i = ⊎_elim (λ (z : y ≡ gap). absurd (same z)) (λ (l : y < gap). omega arith) (eq-or-lt_of_le (at_most y d g i))
        where
          same : y ≡ gap → ⊥
          same z = let u : d ≡ on gap = ap day_or (sym g) ∙ ap on z in omega (arith, past)

  pub most_on_sum : (u : TimeUnit) → MostAdded (λ y. shifted e false y (counted_in u)) x (most_on_by u e x)
  unfolding most_on_by months_between
  most_on_sum Days = by_days
  most_on_sum Weeks = by_days
  most_on_sum Months = by_months _ refl
  most_on_sum Years = by_months _ refl
