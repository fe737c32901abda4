-- A checked list is exactly one that keeps document 01's rule, said of its elements.
-- Assumes nothing.
use Rattle.std.specs.Prelude.{ℕ, zero, suc, ◌+◌, ◌≤◌, ◌<◌, ◌≡◌, true, length, get_or, leb}
use Rattle.std.proofs.Math.Path.{refl}
use mathlib.Core.List.{List, [], ◌∷◌}
use Rattle.std.proofs.Common.{arith, not-suc-le-zero, le_of_suc-le-suc}
use borrow.Author.Tests.{le-leb, leb-true}
use Rattle.refusal.specs.Laws.Answers.{both}
use Rattle.date.specs.Date.{SPAN_FIRST, SPAN_LAST}
use Rattle.calendar.specs.Open.{ascending, closed_ok}

-- at most 4,096 dates, every two neighbours ascending, all of the span
pub record Rule (closed : List ℕ) : Type 0 where
  pub few : length closed ≤ 4096
  pub rising : (k : ℕ) → suc k < length closed → get_or closed k 0 < get_or closed (suc k) 0
  pub from : (k : ℕ) → k < length closed → SPAN_FIRST ≤ get_or closed k 0
  pub to : (k : ℕ) → k < length closed → get_or closed k 0 ≤ SPAN_LAST

module _ (high : ℕ) where
  asc_first : (low x : ℕ) (xs : List ℕ) → ascending low high (x ∷ xs) ≡ true → low ≤ x
  unfolding ascending
  asc_first low x xs e = leb-true low x (both (leb low x) _ e).0

  asc_high : (low x : ℕ) (xs : List ℕ) → ascending low high (x ∷ xs) ≡ true → x ≤ high
  unfolding ascending
  asc_high low x xs e = leb-true x high (both (leb x high) _ (both (leb low x) _ e).1).0

  asc_rest : (low x : ℕ) (xs : List ℕ) → ascending low high (x ∷ xs) ≡ true → ascending (x + 1) high xs ≡ true
  unfolding ascending
  asc_rest low x xs e = (both (leb x high) _ (both (leb low x) _ e).1).1

  asc_from : (low k : ℕ) (xs : List ℕ) → ascending low high xs ≡ true → k < length xs → low ≤ get_or xs k 0
  asc_from low k [] e h = absurd (not-suc-le-zero h)
  asc_from low zero (x ∷ xs) e h = asc_first low x xs e
  asc_from low (suc k) (x ∷ xs) e h =
      omega (arith, asc_first low x xs e, asc_from (x + 1) k xs (asc_rest low x xs e) (le_of_suc-le-suc h))

  asc_below : (low k : ℕ) (xs : List ℕ) → ascending low high xs ≡ true → k < length xs → get_or xs k 0 ≤ high
  asc_below low k [] e h = absurd (not-suc-le-zero h)
  asc_below low zero (x ∷ xs) e h = asc_high low x xs e
  asc_below low (suc k) (x ∷ xs) e h = asc_below (x + 1) k xs (asc_rest low x xs e) (le_of_suc-le-suc h)

  asc_at : (low p q : ℕ) (xs : List ℕ) → ascending low high xs ≡ true → p < q → q < length xs → get_or xs p 0 < get_or xs q 0
  asc_at low p q [] e l h = absurd (not-suc-le-zero h)
  asc_at low p zero (x ∷ xs) e l h = absurd (not-suc-le-zero l)
  asc_at low zero (suc q) (x ∷ xs) e l h =
      omega (arith, asc_from (x + 1) q xs (asc_rest low x xs e) (le_of_suc-le-suc h))
  asc_at low (suc p) (suc q) (x ∷ xs) e l h =
      asc_at (x + 1) p q xs (asc_rest low x xs e) (le_of_suc-le-suc l) (le_of_suc-le-suc h)

  -- and back: where every two neighbours ascend, each is above the first
  rise : (xs : List ℕ) → ((k : ℕ) → suc k < length xs → get_or xs k 0 < get_or xs (suc k) 0) → (k : ℕ) → suc k < length xs → get_or xs 0 0 < get_or xs (suc k) 0
  rise xs r zero h = r zero h
  rise xs r (suc k) h = omega (arith, rise xs r k (omega arith), r (suc k) h)

  asc_made : (low : ℕ) (xs : List ℕ) → ((k : ℕ) → suc k < length xs → get_or xs k 0 < get_or xs (suc k) 0) → ((k : ℕ) → k < length xs → low ≤ get_or xs k 0) → ((k : ℕ) → k < length xs → get_or xs k 0 ≤ high) → ascending low high xs ≡ true
  unfolding ascending
  asc_made low [] r f t = refl
  asc_made low (x ∷ xs) r f t =
      rw (le-leb low x (f 0 (omega arith)), le-leb x high (t 0 (omega arith)))
      (asc_made (x + 1) xs (λ k h. r (suc k) (omega arith)) (λ k h. omega (arith, rise (x ∷ xs) r k (omega arith))) (λ k h. t (suc k) (omega arith)))

ok_few : (closed : List ℕ) → closed_ok closed ≡ true → length closed ≤ 4096
unfolding closed_ok
ok_few closed ok = leb-true (length closed) 4096 (both _ _ ok).0

ok_ascending : (closed : List ℕ) → closed_ok closed ≡ true → ascending SPAN_FIRST SPAN_LAST closed ≡ true
unfolding closed_ok
ok_ascending closed ok = (both (leb (length closed) 4096) _ ok).1

-- any two dates of a checked list, not only neighbours, ascend
pub ok_at : (closed : List ℕ) (p q : ℕ) → closed_ok closed ≡ true → p < q → q < length closed → get_or closed p 0 < get_or closed q 0
ok_at closed p q ok l h = asc_at SPAN_LAST SPAN_FIRST p q closed (ok_ascending closed ok) l h

-- ---- the two directions
pub checked_keeps : (closed : List ℕ) → closed_ok closed ≡ true → Rule closed
checked_keeps closed ok =
    let a = ok_ascending closed ok in
    record {
      few = ok_few closed ok;
      rising = λ k h. ok_at closed k (suc k) ok (omega arith) h;
      from = λ k h. asc_from SPAN_LAST SPAN_FIRST k closed a h;
      to = λ k h. omega (arith, asc_below SPAN_LAST SPAN_FIRST k closed a h);
    }

pub kept_checks : (closed : List ℕ) → Rule closed → closed_ok closed ≡ true
unfolding closed_ok
kept_checks closed r =
    rw (le-leb (length closed) 4096 r.few)
    (asc_made SPAN_LAST SPAN_FIRST closed r.rising r.from (λ k h. omega (arith, r.to k h)))
