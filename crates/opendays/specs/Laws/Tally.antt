-- Days counted one by one: stretches add up, and what holds of each day holds of the counts.
-- Assumes nothing.
use Prim.Native.Nat.{ℕ, zero, suc, ◌+◌, ◌-◌, ◌≤◌, ◌<◌}
use Rattle.std.specs.Prelude.{◌≡◌, Bool, true, false}
use Rattle.std.proofs.Math.Path.{refl}
use Rattle.std.proofs.Common.{sym, ap, ◌∙◌}
use native.Mathlib.Omega.{arith}
use Rattle.date.specs.Civil.{pick_n}
use Rattle.opendays.specs.Count.{tally}

pub pick_le : (b : Bool) → pick_n b 1 0 ≤ 1
pick_le true = omega arith
pick_le false = omega arith

-- ---- a stretch, one day after another
module _ (such : ℕ → Bool) where
  pub none_counted : (day : ℕ) → tally such day 0 ≡ 0
  unfolding tally
  none_counted day = refl

  pub one_counted : (day : ℕ) → tally such day 1 ≡ pick_n (such day) 1 0
  unfolding tally
  one_counted day = omega arith

  pub tally_next : (day n : ℕ) → tally such day (suc n) ≡ pick_n (such day) 1 0 + tally such (day + 1) n
  unfolding tally
  tally_next day n = refl

  pub tally_add : (day a b : ℕ) → tally such day (a + b) ≡ tally such day a + tally such (day + a) b
  unfolding tally
  tally_add day zero b =
      let e : 0 + b ≡ b = omega arith in
      let f : day + 0 ≡ day = omega arith in
      rw (e, f) (omega arith)
  tally_add day (suc a) b =
      let e : suc a + b ≡ suc (a + b) = omega arith in
      let f : day + suc a ≡ day + 1 + a = omega arith in
      rw (e, f) (omega (arith, tally_add (day + 1) a b))

  pub tally_to : (from mid to : ℕ) → from ≤ mid → mid ≤ to → tally such from (to - from) ≡ tally such from (mid - from) + tally such mid (to - mid)
  tally_to from mid to h i =
      let e : to - from ≡ (mid - from) + (to - mid) = omega arith in
      let f : from + (mid - from) ≡ mid = omega arith in
      rw e (tally_add from (mid - from) (to - mid) ∙ ap (λ (d : ℕ). tally such from (mid - from) + tally such d (to - mid)) f)

  -- one day more at the end
  pub tally_last : (from day : ℕ) → from ≤ day → tally such from (day + 1 - from) ≡ tally such from (day - from) + pick_n (such day) 1 0
  tally_last from day h =
      let e : day + 1 - day ≡ 1 = omega arith in
      tally_to from day (day + 1) h (omega arith)
      ∙ ap (λ (n : ℕ). tally such from (day - from) + tally such day n) e
      ∙ ap (λ (n : ℕ). tally such from (day - from) + n) (one_counted day)

  pub tally_few : (day n : ℕ) → tally such day n ≤ n
  unfolding tally
  tally_few day zero = omega arith
  tally_few day (suc n) = omega (arith, pick_le (such day), tally_few (day + 1) n)

  pub tally_more : (day n m : ℕ) → n ≤ m → tally such day n ≤ tally such day m
  tally_more day n m h =
      let e : n + (m - n) ≡ m = omega arith in
      let s : tally such day m ≡ tally such day n + tally such (day + n) (m - n) = ap (tally such day) (sym e) ∙ tally_add day n (m - n) in
      omega arith

-- ---- what holds of each day of a stretch
pub tally_same : (f g : ℕ → Bool) (day n : ℕ) → ((d : ℕ) → day ≤ d → d < day + n → f d ≡ g d) → tally f day n ≡ tally g day n
unfolding tally
tally_same f g day zero h = refl
tally_same f g day (suc n) h =
    rw (h day (omega arith) (omega arith))
    (ap (λ (m : ℕ). pick_n (g day) 1 0 + m) (tally_same f g (day + 1) n (λ d l u. h d (omega arith) (omega arith))))

pub tally_sum : (f g h : ℕ → Bool) (day n : ℕ) → ((d : ℕ) → day ≤ d → pick_n (f d) 1 0 ≡ pick_n (g d) 1 0 + pick_n (h d) 1 0) → tally f day n ≡ tally g day n + tally h day n
unfolding tally
tally_sum f g h day zero p = refl
tally_sum f g h day (suc n) p =
    omega (arith, p day (omega arith), tally_sum f g h (day + 1) n (λ d l. p d (omega arith)))

pub tally_none : (f : ℕ → Bool) (day n : ℕ) → ((d : ℕ) → day ≤ d → d < day + n → f d ≡ false) → tally f day n ≡ 0
unfolding tally
tally_none f day zero h = refl
tally_none f day (suc n) h =
    rw (h day (omega arith) (omega arith)) (omega (arith, tally_none f (day + 1) n (λ d l u. h d (omega arith) (omega arith))))
