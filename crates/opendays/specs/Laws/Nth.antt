-- The k-th of some days: found where it lies in the stretch, refused where there are fewer, and no other day has as many before it.
-- Assumes nothing.
use Prim.Native.Nat.{ℕ, zero, suc, ◌+◌, ◌-◌, ◌≤◌, ◌<◌}
use Rattle.std.specs.Prelude.{◌≡◌, Bool, true, false, ltb}
use Rattle.std.proofs.Math.Path.{refl}
use Rattle.std.proofs.Common.{sym, ap, ◌∙◌, ltb-true, ltb-false}
use native.Mathlib.Omega.{arith}
use Rattle.refusal.specs.Answer.{given, refused, BOOK}
use Rattle.refusal.specs.Laws.Answers.{one_given, never_both}
use Rattle.date.specs.Civil.{pick_n}
use Rattle.opendays.specs.Count.{tally, on_day, nth_from}
use Rattle.opendays.specs.Inner.Steps.{After, Found}
use Rattle.opendays.specs.Laws.Tally.{tally_next, tally_last, tally_more, none_counted}

module _ (such : ℕ → Bool) where
  -- ---- one turn
  here : (left day k : ℕ) → k ≤ 1 → such day ≡ true → nth_from such (suc left) day k ≡ given day
  unfolding nth_from on_day
  here left day zero h e = rw e
  here left day (suc zero) h e = rw e
  here left day (suc (suc k)) h e = let bad : ⊥ = omega arith in absurd bad

  counts : (left day k : ℕ) → such day ≡ true → nth_from such (suc left) day (suc (suc k)) ≡ nth_from such left (day + 1) (suc k)
  unfolding nth_from on_day
  counts left day k e = rw e

  passes : (left day k : ℕ) → such day ≡ false → nth_from such (suc left) day k ≡ nth_from such left (day + 1) k
  unfolding nth_from on_day
  passes left day k e = rw e

  next_true : (day n : ℕ) → such day ≡ true → tally such day (suc n) ≡ suc (tally such (day + 1) n)
  next_true day n e = tally_next such day n ∙ ap (λ (b : Bool). pick_n b 1 0 + tally such (day + 1) n) e ∙ omega arith

  next_false : (day n : ℕ) → such day ≡ false → tally such day (suc n) ≡ tally such (day + 1) n
  next_false day n e = tally_next such day n ∙ ap (λ (b : Bool). pick_n b 1 0 + tally such (day + 1) n) e ∙ omega arith

  -- ---- where there are as many, one of the days is the k-th
  pub record Given (left from k : ℕ) : Type 0 where
    pub day : ℕ
    pub answer : nth_from such left from (suc k) ≡ given day
    pub found : Found such from k left day

  first_here : (left from k : ℕ) → k ≡ 0 → such from ≡ true → Given (suc left) from k
  first_here left from k z e =
      let f : from - from ≡ 0 = omega arith in
      record {
        day = from;
        answer = here left from (suc k) (omega arith) e;
        found = record { after = record { order = omega arith; is_such = e; counted = ap (tally such from) f ∙ none_counted such from ∙ sym z }; soon = omega arith };
      }

  later_day : (from before day : ℕ) → from + 1 ≤ day → tally such from (day - from) ≡ pick_n (such from) 1 0 + tally such (from + 1) (day - (from + 1))
  later_day from before day h =
      let e : day - from ≡ suc (day - (from + 1)) = omega arith in
      ap (tally such from) e ∙ tally_next such from (day - (from + 1))

  on_after_lem : (from k n day : ℕ) → pick_n (such from) 1 0 + n ≡ k → After such (from + 1) n day → After such from k day
  on_after_lem from k n day e a =
      record {
        order = omega (arith, a.order);
        is_such = a.is_such;
        counted = later_day from k day a.order ∙ ap (λ (m : ℕ). pick_n (such from) 1 0 + m) a.counted ∙ e;
      }

  given_by : (b : Bool) (left from k : ℕ) → such from ≡ b → ((d j : ℕ) → suc j ≤ tally such d left → Given left d j) → suc k ≤ tally such from (suc left) → Given (suc left) from k
  given_by true left from zero e more h = first_here left from 0 refl e
  given_by true left from (suc k) e more h =
      let g = more (from + 1) k (omega (arith, next_true from left e)) in
      record {
        day = g.day;
        answer = counts left from k e ∙ g.answer;
        found = record { after = on_after_lem from (suc k) k g.day (ap (λ (b : Bool). pick_n b 1 0 + k) e ∙ omega arith) g.found.after; soon = omega (arith, g.found.soon) };
      }
  given_by false left from k e more h =
      let g = more (from + 1) k (omega (arith, next_false from left e)) in
      record {
        day = g.day;
        answer = passes left from (suc k) e ∙ g.answer;
        found = record { after = on_after_lem from k k g.day (ap (λ (b : Bool). pick_n b 1 0 + k) e ∙ omega arith) g.found.after; soon = omega (arith, g.found.soon) };
      }

  pub given_from : (left from k : ℕ) → suc k ≤ tally such from left → Given left from k
  given_from zero from k h = let bad : ⊥ = omega (arith, none_counted such from) in absurd bad
  given_from (suc left) from k h = given_by (such from) left from k refl (given_from left) h

  -- ---- and where there are fewer, none
  refused_by : (b : Bool) (left from k : ℕ) → such from ≡ b → ((d j : ℕ) → tally such d left ≤ j → nth_from such left d (suc j) ≡ refused BOOK) → tally such from (suc left) ≤ k → nth_from such (suc left) from (suc k) ≡ refused BOOK
  refused_by true left from zero e more h = let bad : ⊥ = omega (arith, next_true from left e) in absurd bad
  refused_by true left from (suc k) e more h = counts left from k e ∙ more (from + 1) k (omega (arith, next_true from left e))
  refused_by false left from k e more h = passes left from (suc k) e ∙ more (from + 1) k (omega (arith, next_false from left e))

  pub refused_from : (left from k : ℕ) → tally such from left ≤ k → nth_from such left from (suc k) ≡ refused BOOK
  unfolding nth_from
  refused_from zero from k h = refl
  refused_from (suc left) from k h = refused_by (such from) left from k refl (refused_from left) h

  -- ---- no two days have as many before them
  not_before : (from k a b : ℕ) → After such from k a → After such from k b → a < b → ⊥
  not_before from k a b p q h =
      let e : tally such from (a + 1 - from) ≡ tally such from (a - from) + 1 = tally_last such from a p.order ∙ ap (λ (t : Bool). tally such from (a - from) + pick_n t 1 0) p.is_such in
      omega (arith, p.counted, q.counted, tally_more such from (a + 1 - from) (b - from) (omega (arith, p.order)))

  pub one_after : (from k a b : ℕ) → After such from k a → After such from k b → a ≡ b
  one_after from k a b p q =
      let x : a < b → ⊥ = not_before from k a b p q in
      let y : b < a → ⊥ = not_before from k b a q p in
      omega arith

  enough : (from k left day : ℕ) → Found such from k left day → suc k ≤ tally such from left
  enough from k left day f =
      let e : tally such from (day + 1 - from) ≡ tally such from (day - from) + 1 = tally_last such from day f.after.order ∙ ap (λ (t : Bool). tally such from (day - from) + pick_n t 1 0) f.after.is_such in
      omega (arith, f.after.counted, tally_more such from (day + 1 - from) left (omega (arith, f.soon, f.after.order)))

  -- ---- a day with so many before it is the one that is given, and the other way round
  pub found_given : (from k left day : ℕ) → Found such from k left day → nth_from such left from (suc k) ≡ given day
  found_given from k left day f =
      let g = given_from left from k (enough from k left day f) in
      g.answer ∙ ap given (one_after from k g.day day g.found.after f.after)

  pub late_refused : (from k left day : ℕ) → After such from k day → from + left ≤ day → nth_from such left from (suc k) ≡ refused BOOK
  late_refused from k left day a h =
      refused_from left from k (omega (arith, a.counted, tally_more such from left (day - from) (omega arith)))

  given_by_count : (t : Bool) (from k left day : ℕ) → ltb k (tally such from left) ≡ t → nth_from such left from (suc k) ≡ given day → Found such from k left day
  given_by_count true from k left day e h =
      let g = given_from left from k (ltb-true k _ e) in
      let s : g.day ≡ day = one_given _ g.day day g.answer h in
      rw (← s) g.found
  given_by_count false from k left day e h = absurd (never_both _ day BOOK h (refused_from left from k (ltb-false k _ e)))

  pub given_found : (from k left day : ℕ) → nth_from such left from (suc k) ≡ given day → Found such from k left day
  given_found from k left day h = given_by_count (ltb k (tally such from left)) from k left day refl h

  -- ---- days that are passed first may be left out
  skip_by : (b : Bool) (m left from k : ℕ) → such from ≡ b → tally such from (suc m) ≤ k → ((d j : ℕ) → tally such d m ≤ j → nth_from such (m + left) d (suc j) ≡ nth_from such left (d + m) (suc (j - tally such d m))) → nth_from such (suc (m + left)) from (suc k) ≡ nth_from such left (from + 1 + m) (suc (k - tally such from (suc m)))
  skip_by true m left from zero e h more = let bad : ⊥ = omega (arith, next_true from m e) in absurd bad
  skip_by true m left from (suc k) e h more =
      let t = next_true from m e in
      let s : k - tally such (from + 1) m ≡ suc k - tally such from (suc m) = omega arith in
      counts (m + left) from k e ∙ more (from + 1) k (omega arith) ∙ ap (λ (j : ℕ). nth_from such left (from + 1 + m) (suc j)) s
  skip_by false m left from k e h more =
      let t = next_false from m e in
      passes (m + left) from (suc k) e ∙ more (from + 1) k (omega arith) ∙ ap (λ (j : ℕ). nth_from such left (from + 1 + m) (suc (k - j))) (sym t)

  pub skipped : (m left from k : ℕ) → tally such from m ≤ k → nth_from such (m + left) from (suc k) ≡ nth_from such left (from + m) (suc (k - tally such from m))
  skipped zero left from k h =
      let a : 0 + left ≡ left = omega arith in
      let b : from + 0 ≡ from = omega arith in
      let c : k - tally such from 0 ≡ k = omega (arith, none_counted such from) in
      rw (a, b, c)
  skipped (suc m) left from k h =
      let a : suc m + left ≡ suc (m + left) = omega arith in
      let b : from + suc m ≡ from + 1 + m = omega arith in
      rw (a, b) (skip_by (such from) m left from k refl h (skipped m left))
