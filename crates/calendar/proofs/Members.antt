-- What the places of a day in a list say of whether it is in the list, and so of whether it is open.
-- Assumes nothing.
use Prim.Native.Nat.{ℕ, zero, suc, ◌-◌, ◌≤◌, ◌<◌}
use mathlib.Core.Path.{◌≡◌, refl}
use mathlib.Core.Bool.{Bool, true, false, not, ◌&&◌, ◌||◌}
use mathlib.Core.List.{List, [], ◌∷◌}
use mathlib.Core.Logic.{⊎_elim}
use native.Mathlib.Nat.{not-suc-le-zero, le_of_suc-le-suc, eq-or-lt_of_le}
use native.Mathlib.Omega.{arith}
use lib.ListN.{length, get_or}
use lib.Dec.{eqb, ltb}
use borrow.Author.Tests.{eq-eqb, ne_eqb, ltb-true, ltb-false}
use Rattle.calendar.specs.Open.{weekly_closed, member, is_open_day, closed_ok}
use Rattle.calendar.specs.Laws.Kept.{ok_at}
use Rattle.calendar.specs.Inner.Places.{Below, Above}

pub present : (closed : List ℕ) (k day : ℕ) → k < length closed → get_or closed k 0 ≡ day → member day closed ≡ true
unfolding member
present [] k day h e = absurd (not-suc-le-zero h)
present (x ∷ xs) zero day h e = rw (eq-eqb x day e)
present (x ∷ xs) (suc k) day h e = or_true (eqb x day) _ (present xs k day (le_of_suc-le-suc h) e)
  where
    or_true : (a b : Bool) → b ≡ true → (a || b) ≡ true
    or_true true b p = refl
    or_true false b p = p

absent : (closed : List ℕ) (day : ℕ) → ((k : ℕ) → k < length closed → get_or closed k 0 ≡ day → ⊥) → member day closed ≡ false
unfolding member
absent [] day f = refl
absent (x ∷ xs) day f = rw (ne_eqb x day (f 0 (omega arith))) (absent xs day (λ k h. f (suc k) (omega arith)))

-- a day that stands between the dates before place i and those from there on is not in the list
pub between : (closed : List ℕ) (i day : ℕ) → Below closed i day → Above closed i day → member day closed ≡ false
between closed i day b a = absent closed day (λ k h e. by k h e (ltb k i) refl)
  where
    by : (k : ℕ) → k < length closed → get_or closed k 0 ≡ day → (t : Bool) → ltb k i ≡ t → ⊥
    by k h e true t = omega (arith, b.before k (ltb-true k i t))
    by k h e false t = omega (arith, a.after k (ltb-false k i t) h)

-- in a list that keeps its rule, one date before the day has all before it there too, and one after it all after it
pub below_to : (closed : List ℕ) (i day : ℕ) → closed_ok closed ≡ true → 0 < i → i ≤ length closed → get_or closed (i - 1) 0 < day → Below closed i day
below_to closed i day ok h w l =
    record { before = λ k q. ⊎_elim (λ (p : k ≡ i - 1). rw p l) (λ (p : k < i - 1). omega (arith, ok_at closed k (i - 1) ok p (omega arith))) (eq-or-lt_of_le (omega arith)) }

pub above_from : (closed : List ℕ) (i day : ℕ) → closed_ok closed ≡ true → day < get_or closed i 0 → Above closed i day
above_from closed i day ok l =
    record { after = λ k q h. ⊎_elim (λ (p : i ≡ k). rw (← p) l) (λ (p : i < k). omega (arith, ok_at closed i k ok p h)) (eq-or-lt_of_le q) }

pub below_none : (closed : List ℕ) (i day : ℕ) → i ≤ 0 → Below closed i day
below_none closed i day l = record { before = λ k q. omega arith }

pub above_end : (closed : List ℕ) (i day : ℕ) → length closed ≤ i → Above closed i day
above_end closed i day l = record { after = λ k q h. omega arith }

-- ---- open or not
module _ (mask : ℕ) (closed : List ℕ) (day : ℕ) where
  pub shut_week : weekly_closed mask day ≡ true → is_open_day mask closed day ≡ false
  unfolding is_open_day
  shut_week e = rw e

  pub shut_listed : member day closed ≡ true → is_open_day mask closed day ≡ false
  unfolding is_open_day
  shut_listed e = rw e (and_false (not (weekly_closed mask day)))
    where
      and_false : (a : Bool) → (a && false) ≡ false
      and_false true = refl
      and_false false = refl

  pub is_open : weekly_closed mask day ≡ false → member day closed ≡ false → is_open_day mask closed day ≡ true
  unfolding is_open_day
  is_open e f = rw (e, f)
