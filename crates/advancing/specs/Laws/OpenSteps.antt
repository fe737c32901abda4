-- Steps of open days, one after the other: they add up, and from an open day they lead back.
-- Assumes nothing.
use Prim.Native.Nat.{ℕ, zero, suc, ◌+◌, ◌-◌, ◌≤◌, ◌<◌}
use Rattle.std.specs.Prelude.{◌≡◌, Bool, not, List, leb}
use Rattle.std.proofs.Math.Path.{refl, ap, sym}
use Rattle.std.proofs.Common.{◌∙◌, leb-true, le-leb}
use Rattle.std.proofs.Math.Bool.{true, false}
use native.Mathlib.Omega.{arith}
use Rattle.refusal.specs.Answer.{Answer, given, refused, then, BOOK}
use Rattle.refusal.specs.Laws.Answers.{need_given, one_given, then_given, then_stepped, both}
use Rattle.date.specs.Date.{step}
use Rattle.calendar.specs.Open.{is_open_day}
use Rattle.calendar.specs.AnyCalendar as any
use Rattle.calendar.specs.Adjust.{in_span, towards, adjusted, open_steps}
use Rattle.calendar.specs.Laws.Search.{adjusted_first, first_adjusted}
use Rattle.calendar.specs.Laws.Stays.{adjust_again}
use Rattle.advancing.specs.Laws.Signs.{Sum}

-- ---- the span
pub record Span (n : ℕ) : Type 0 where
  pub low : 657072 ≤ n
  pub high : n ≤ 876216

span_of : (n : ℕ) → in_span n ≡ true → Span n
unfolding in_span
span_of n h =
    let b = both (leb 657072 n) (leb n 876216) h in
    record { low = leb-true 657072 n b.0; high = leb-true n 876216 b.1 }

pub of_span : (n : ℕ) → Span n → in_span n ≡ true
unfolding in_span
of_span n s = rw (le-leb 657072 n s.low, le-leb n 876216 s.high)

module _ (mask : ℕ) (closed : List ℕ) where
  -- a day found is an open day of the span
  found_in : (back : Bool) (day new : ℕ) → adjusted mask closed (towards back) day ≡ given new → in_span new ≡ true
  unfolding any.adjusted
  found_in back day new h = (need_given BOOK (in_span new) _ new (adjust_again (is_open_day mask closed) (towards back) day new h)).0

  -- ---- steps add up
  after_then : (x : Answer ℕ) (f g : ℕ → Answer ℕ) → then (then x f) g ≡ then x (λ n. then (f n) g)
  unfolding then
  after_then (given a) f g = refl
  after_then (refused n) f g = refl

  pub steps_add : (back : Bool) (k l day : ℕ) → open_steps mask closed back (k + l) day ≡ then (open_steps mask closed back k day) (open_steps mask closed back l)
  unfolding any.open_steps then
  steps_add back zero l day = ap (λ (x : ℕ). open_steps mask closed back x day) (let e : 0 + l ≡ l = omega arith in e)
  steps_add back (suc k) l day =
      ap (λ (x : ℕ). open_steps mask closed back x day) (let e : suc k + l ≡ suc (k + l) = omega arith in e)
      ∙ ap (then (adjusted mask closed (towards back) (step back day 1))) (λ i d. steps_add back k l d i)
      ∙ sym (after_then (adjusted mask closed (towards back) (step back day 1)) (open_steps mask closed back k) (open_steps mask closed back l))

  -- ---- one step leads back
  there : (back : Bool) (day new n : ℕ) → 1 ≤ day → 1 ≤ new → new ≡ step back (step back day 1) n → day ≡ step (not back) (step (not back) new 1) n
  unfolding step
  there true day new n a b e = omega arith
  there false day new n a b e = omega arith

  between : (back : Bool) (day new n : ℕ) → Span day → Span new → new ≡ step back (step back day 1) n → Span (step (not back) new 1)
  unfolding step
  between true day new n a b e = record { low = omega (arith, b.low, a.low); high = omega (arith, b.low, a.high) }
  between false day new n a b e = record { low = omega (arith, a.low); high = omega (arith, b.high) }

  mirrored : (back : Bool) (day new n k : ℕ) → 1 ≤ day → 1 ≤ new → k < n → new ≡ step back (step back day 1) n → step (not back) (step (not back) new 1) k ≡ step back (step back day 1) (n - suc k)
  unfolding step
  mirrored true day new n k a b h e = omega arith
  mirrored false day new n k a b h e = omega arith

  one_back : (back : Bool) (day new : ℕ) → is_open_day mask closed day ≡ true → in_span day ≡ true → adjusted mask closed (towards back) (step back day 1) ≡ given new → adjusted mask closed (towards (not back)) (step (not back) new 1) ≡ given day
  one_back back day new o s h =
      let f = adjusted_first (is_open_day mask closed) back (step back day 1) new h in
      let a = span_of day s in
      let b = span_of new (found_in back (step back day 1) new h) in
      let p : 1 ≤ day = omega (arith, a.low) in
      let q : 1 ≤ new = omega (arith, b.low) in
      first_adjusted (is_open_day mask closed) (not back) (step (not back) new 1) day
      (of_span _ (between back day new f.steps a b f.there))
      s
      (record {
        steps = f.steps;
        few = f.few;
        there = there back day new f.steps p q f.there;
        is_open = o;
        passed_over = λ k l. ap (is_open_day mask closed) (mirrored back day new f.steps k p q l f.there) ∙ f.passed_over (f.steps - suc k) (omega arith);
      })

  -- ---- and so do many
  pub return : (back : Bool) (k day new : ℕ) → is_open_day mask closed day ≡ true → in_span day ≡ true → open_steps mask closed back k day ≡ given new → open_steps mask closed (not back) k new ≡ given day
  unfolding any.open_steps then
  return back zero day new o s h = sym h
  return back (suc k) day new o s h =
      let t = then_stepped (adjusted mask closed (towards back) (step back day 1)) (open_steps mask closed back k) new h in
      let f = adjusted_first (is_open_day mask closed) back (step back day 1) t.value t.from in
      let r = return back k t.value new f.is_open (found_in back (step back day 1) t.value t.from) t.to in
      let w = one_back back day t.value o s t.from in
      ap (λ (x : ℕ). open_steps mask closed (not back) x new) (let e : suc k ≡ k + 1 = omega arith in e)
      ∙ steps_add (not back) k 1 new
      ∙ sym (then_given _ t.value (open_steps mask closed (not back) 1) (given day) r (then_given _ day given (given day) w refl))

  -- an open day leads to open days
  steps_open : (back : Bool) (k day new : ℕ) → is_open_day mask closed day ≡ true → in_span day ≡ true → open_steps mask closed back k day ≡ given new → (is_open_day mask closed new ≡ true) × (in_span new ≡ true)
  unfolding any.open_steps
  steps_open back zero day new o s h = let e : day ≡ new = one_given _ day new refl h in (ap (is_open_day mask closed) (sym e) ∙ o, ap in_span (sym e) ∙ s)
  steps_open back (suc k) day new o s h =
      let t = then_stepped (adjusted mask closed (towards back) (step back day 1)) (open_steps mask closed back k) new h in
      let f = adjusted_first (is_open_day mask closed) back (step back day 1) t.value t.from in
      steps_open back k t.value new f.is_open (found_in back (step back day 1) t.value t.from) t.to

  -- ---- two advances, and the one of their sum
  -- both on, or both back
  same_way : (day new : ℕ) (back : Bool) (k l j : ℕ) → j ≡ k + l → open_steps mask closed back k day ≡ given new → open_steps mask closed back l new ≡ open_steps mask closed back j day
  same_way day new back k l j e p =
      then_given _ new (open_steps mask closed back l) _ p refl
      ∙ sym (steps_add back k l day)
      ∙ ap (λ (x : ℕ). open_steps mask closed back x day) (sym e)

  module _ (day new : ℕ) where
    -- no step in one of the two
    none_first : (b c : Bool) (k l j : ℕ) → k ≡ 0 → l ≡ j → open_steps mask closed b k day ≡ given new → open_steps mask closed c l new ≡ open_steps mask closed c j day
    unfolding any.open_steps
    none_first b c k l j z e p =
        let f : day ≡ new = one_given _ day new refl (ap (λ (x : ℕ). open_steps mask closed b x day) (sym z) ∙ p) in
        ap (open_steps mask closed c l) (sym f) ∙ ap (λ (x : ℕ). open_steps mask closed c x day) e

    none_second : (b c : Bool) (k l j : ℕ) → l ≡ 0 → k ≡ j → open_steps mask closed b k day ≡ given new → open_steps mask closed c l new ≡ open_steps mask closed b j day
    unfolding any.open_steps
    none_second b c k l j z e p =
        ap (λ (x : ℕ). open_steps mask closed c x new) z ∙ sym p ∙ ap (λ (x : ℕ). open_steps mask closed b x day) e

    module _ (o : is_open_day mask closed day ≡ true) (s : in_span day ≡ true) where
      -- back by no more than was gone
      part_back : (back : Bool) (k l j : ℕ) → j + l ≡ k → open_steps mask closed back k day ≡ given new → open_steps mask closed (not back) l new ≡ open_steps mask closed back j day
      part_back back k l j e p =
          let h : then (open_steps mask closed back j day) (open_steps mask closed back l) ≡ given new = sym (steps_add back j l day) ∙ ap (λ (x : ℕ). open_steps mask closed back x day) e ∙ p in
          let t = then_stepped (open_steps mask closed back j day) (open_steps mask closed back l) new h in
          let w = steps_open back j day t.value o s t.from in
          return back l t.value new w.0 w.1 t.to ∙ sym t.from

      -- back by no less
      past_start : (back : Bool) (k l j : ℕ) → j + k ≡ l → open_steps mask closed back k day ≡ given new → open_steps mask closed (not back) l new ≡ open_steps mask closed (not back) j day
      past_start back k l j e p =
          let f : l ≡ k + j = omega arith in
          sym (same_way new day (not back) k j l f (return back k day new o s p))

      -- from an open day, whatever the signs
      pub from_open : (b c d : Bool) (k l j : ℕ) → Sum b k c l d j → open_steps mask closed b k day ≡ given new → open_steps mask closed c l new ≡ open_steps mask closed d j day
      unfolding Sum
      from_open false false false k l j e p = same_way day new false k l j e p
      from_open false false true k l j e p = absurd e
      from_open false true false k l j e p = part_back false k l j e p
      from_open false true true k l j e p = past_start false k l j e p
      from_open true false false k l j e p = past_start true k l j e p
      from_open true false true k l j e p = part_back true k l j e p
      from_open true true false k l j e p = absurd e
      from_open true true true k l j e p = same_way day new true k l j e p

    -- from any day, where neither takes back what the other goes
    pub one_way : (b c d : Bool) (k l j : ℕ) → Sum b k c l d j → j ≡ k + l → open_steps mask closed b k day ≡ given new → open_steps mask closed c l new ≡ open_steps mask closed d j day
    unfolding Sum
    one_way false false false k l j e z p = same_way day new false k l j e p
    one_way false false true k l j e z p = absurd e
    one_way false true false k l j e z p = none_second false true k l j (omega arith) (omega arith) p
    one_way false true true k l j e z p = none_first false true k l j (omega arith) (omega arith) p
    one_way true false false k l j e z p = none_first true false k l j (omega arith) (omega arith) p
    one_way true false true k l j e z p = none_second true false k l j (omega arith) (omega arith) p
    one_way true true false k l j e z p = absurd e
    one_way true true true k l j e z p = same_way day new true k l j e p
