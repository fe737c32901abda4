-- The most days or months that can be taken: by one more that passes, and by a sum.
-- Assumes nothing.
use Rattle.std.specs.Prelude.{ℕ, ◌+◌, ◌-◌, ◌≤◌, ◌<◌, ◌≡◌, Bool, true, false, List, ltb}
use Rattle.std.proofs.Common.{zero-le, ap, ◌∙◌, sym, ⊎_elim, le_of_lt, eq-or-lt_of_le, arith, ltb-true, ltb-false}
use Rattle.std.proofs.Math.Path.{refl}
use Rattle.refusal.specs.Answer.{given}
use Rattle.period.specs.declared.Unit.{Unit as TimeUnit}
use Rattle.period.specs.declared.Unit.TheVariants.{Days, Weeks, Months, Years}
use Rattle.date.specs.Civil.{pick_n}
use Rattle.date.specs.Date.{in_book, month_index, shifted}
use Rattle.date.specs.Laws.Moves.{book_from}
use Rattle.imm.specs.Laws.Order.{month_le}
use Rattle.steps.specs.declared.Request.{Request}
use Rattle.outcomes.specs.Laws.Span.{le_or_lt, since}
use Rattle.plain.specs.Demand.{Plain, Passes, counted_in, tenor_count, taken, MostOf, Most}
use Rattle.plain.specs.Most.{day_or, months_between, most_by}
use Rattle.plain.specs.Laws.Count.{brink, passes}
use Rattle.plain.specs.Laws.Units.{span_of, days_are, days_line, months_at, months_are, months_zero, months_line}
use Rattle.plain.specs.Laws.Walked.{some_units, line}

-- ---- m can be taken, and one more passes: those two say that m is the most
module _ (q : Request) (closed : List ℕ) (dates flags : ℕ) (p : Plain q) (c : Passes q closed dates flags) (m : ℕ) where
  pub one_more_passes : Most q m → (d : ℕ) × (taken q (m + 1) ≡ given d) × (d < q.effective.day)
  one_more_passes w =
      let l = line q p closed dates flags c in
      let n = some_units q p in
      (day_or (taken q (m + 1)), l.near m w.day (m + 1) w.can_be_taken w.not_passing (omega arith), passes (taken q) q.effective.day q.termination.day (tenor_count q) n (le_of_lt p.order) l m w (m + 1) (omega arith) (omega arith))

  pub most_if : (d d' : ℕ) → taken q m ≡ given d → q.effective.day ≤ d → taken q (m + 1) ≡ given d' → d' < q.effective.day → Most q m
  most_if d d' h i h' i' = record {
    day = d;
    can_be_taken = h;
    not_passing = i;
    no_more = λ x z g o. brink (taken q) q.effective.day q.termination.day (tenor_count q) (some_units q p) (le_of_lt p.order) (line q p closed dates flags c) m d' x z h' i' g o;
  }

module _ (e t : ℕ) (from : in_book e ≡ true) (order : e ≤ t) (to : in_book t ≡ true) where
  by_days : MostOf (λ x. shifted t true x Days) e (t - e)
  by_days = record {
    day = t - (t - e);
    can_be_taken = days_are e t 1 from order to (t - e) (omega (arith, book_from e from));
    not_passing = omega arith;
    no_more = λ y z g i. brink (λ x. shifted t true x Days) e t 1 (omega arith) order (days_line e t 1 from order to (omega arith)) (t - e) (t - (t - e + 1)) y z (days_are e t 1 from order to (t - e + 1) (omega (arith, book_from e from))) (omega (arith, book_from e from)) g i;
  }

  -- the day that x months taken lead to
  abbrev on : ℕ → ℕ
  on x = day_or (shifted t true x Months)

  there : (x : ℕ) → x ≤ month_index t - month_index e + 1 → shifted t true x Months ≡ given (on x)
  there x h = months_are e t 1 from order to x (omega (arith, (since e from).0, month_le e t (omega (arith, book_from e from)) order))

  ordered : month_index e ≤ month_index t
  ordered = month_le e t (omega (arith, book_from e from)) order

  earlier_month : (x d : ℕ) → month_index t - x < month_index e → shifted t true x Months ≡ given d → d < e
  earlier_month x d h c = ⊎_elim (λ (i : e ≤ d). absurd (no i)) (λ (i : d < e). i) (le_or_lt e d)
    where
      no : e ≤ d → ⊥
      no i = omega (arith, months_at e t 1 from order to x d c, month_le e d (omega (arith, book_from e from)) i)

  later_month : (x d : ℕ) → month_index e < month_index t - x → shifted t true x Months ≡ given d → e ≤ d
  later_month x d h c = ⊎_elim (λ (i : e ≤ d). i) (λ (i : d < e). absurd (no i)) (le_or_lt e d)
    where
      no : d < e → ⊥
      no i = omega (arith, months_at e t 1 from order to x d c, month_le d e (omega (arith, (span_of t x Months d c).low)) (le_of_lt i))

  most_months_lem : (m : ℕ) → m ≤ month_index t - month_index e → e ≤ on m → on (m + 1) < e → MostOf (λ x. shifted t true x Months) e m
  most_months_lem m h i j = record {
    day = on m;
    can_be_taken = there m (omega arith);
    not_passing = i;
    no_more = λ y z g o. brink (λ x. shifted t true x Months) e t 1 (omega arith) order (months_line e t 1 from order to (omega arith)) m (on (m + 1)) y z (there (m + 1) (omega arith)) j g o;
  }

  by_months : (b : Bool) → ltb (on (month_index t - month_index e)) e ≡ b → MostOf (λ x. shifted t true x Months) e (pick_n b (month_index t - month_index e - 1) (month_index t - month_index e))
  by_months false h =
      most_months_lem (month_index t - month_index e) (omega arith) (ltb-false _ _ h)
      (earlier_month (month_index t - month_index e + 1) _ (omega (arith, (since e from).0, ordered)) (there (month_index t - month_index e + 1) (omega arith)))
  by_months true h =
      most_months_lem (month_index t - month_index e - 1) (omega arith)
      (later_month (month_index t - month_index e - 1) _ (omega (arith, some, ordered)) (there (month_index t - month_index e - 1) (omega arith)))
      (back (ltb-true _ _ h))
    where
      at : 0 ≡ month_index t - month_index e → on (month_index t - month_index e) < e → ⊥
      at q g = let r : on (month_index t - month_index e) ≡ t = ap on (sym q) ∙ ap day_or (months_zero e t 1 from order to) in omega arith

      some : 1 ≤ month_index t - month_index e
      some = ⊎_elim (λ (q : 0 ≡ month_index t - month_index e). absurd (at q (ltb-true _ _ h))) (λ (q : 0 < month_index t - month_index e). q) (eq-or-lt_of_le zero-le)

      back : on (month_index t - month_index e) < e → on (month_index t - month_index e - 1 + 1) < e
      back g = let q : month_index t - month_index e - 1 + 1 ≡ month_index t - month_index e = omega (arith, some) in rw q g

  pub most_by_lem : (u : TimeUnit) → MostOf (λ x. shifted t true x (counted_in u)) e (most_by u e t)
  unfolding most_by months_between
  most_by_lem Days = by_days
  most_by_lem Weeks = by_days
  most_by_lem Months = by_months _ refl
  most_by_lem Years = by_months _ refl

-- so of a plain request
pub most_sum : (q : Request) (closed : List ℕ) (dates flags : ℕ) → Plain q → Passes q closed dates flags → Most q (most_by q.tenor.unit q.effective.day q.termination.day)
most_sum q closed dates flags p c = most_by_lem q.effective.day q.termination.day c.effective_in_book (le_of_lt p.order) c.termination_in_book q.tenor.unit
