-- The convention that a build goes on with: none where no day is closed, which comes to the same and needs no look at the calendar.
-- Assumes nothing.
use Prim.Native.Nat.{ℕ, zero, suc}
use Rattle.std.specs.Prelude.{◌≡◌, true}
use Rattle.std.proofs.Math.Path.{refl}
use mathlib.Core.List.{List, [], ◌∷◌}
use native.Mathlib.Omega.{arith}
use Rattle.std.proofs.Math.ListN.{length}
use Rattle.calendar.specs.declared.Convention.{Convention}
use Rattle.calendar.specs.declared.Convention.TheVariants.{Unadjusted}
use Rattle.calendar.specs.Open.{member, is_open_day}
use Rattle.calendar.specs.Laws.Mask.{no_weekday}
use Rattle.calendar.specs.Adjust.{adjusted}
use Rattle.calendar.specs.Laws.Stays.{all_same}

unfoldable pub convention_on : (mask : ℕ) (closed : List ℕ) → Convention → Convention
convention_on zero [] convention = Unadjusted
convention_on zero (x ∷ xs) convention = convention
convention_on (suc m) closed convention = convention

never_closed : (day : ℕ) → is_open_day 0 [] day ≡ true
unfolding is_open_day member
never_closed day = rw (no_weekday day) refl

-- it adjusts every day as the convention itself does
pub on_same : (mask : ℕ) (closed : List ℕ) (convention : Convention) → adjusted mask closed (convention_on mask closed convention) ≡ adjusted mask closed convention
unfolding convention_on
on_same zero [] convention = all_same (is_open_day 0 []) never_closed Unadjusted convention
on_same zero (x ∷ xs) convention = refl
on_same (suc m) closed convention = refl

pub on_as : (mask : ℕ) (closed : List ℕ) (way convention : Convention) → way ≡ convention_on mask closed convention → adjusted mask closed way ≡ adjusted mask closed convention
on_as mask closed way convention e = rw e (on_same mask closed convention)

-- ---- by the tests of a call
module _ (mask : ℕ) (closed : List ℕ) (convention : Convention) where
  pub on_open : mask ≡ 0 → length closed ≡ 0 → Unadjusted ≡ convention_on mask closed convention
  unfolding convention_on
  on_open e h = go mask closed e h
    where
      go : (m : ℕ) (c : List ℕ) → m ≡ 0 → length c ≡ 0 → Unadjusted ≡ convention_on m c convention
      go zero [] e h = refl
      go zero (x ∷ xs) e h = let bad : ⊥ = omega arith in absurd bad
      go (suc m) c e h = let bad : ⊥ = omega arith in absurd bad

  pub on_listed : mask ≡ 0 → (length closed ≡ 0 → ⊥) → convention ≡ convention_on mask closed convention
  unfolding convention_on
  on_listed e h = go mask closed e h
    where
      go : (m : ℕ) (c : List ℕ) → m ≡ 0 → (length c ≡ 0 → ⊥) → convention ≡ convention_on m c convention
      go zero [] e h = absurd (h refl)
      go zero (x ∷ xs) e h = refl
      go (suc m) c e h = refl

  pub on_masked : (mask ≡ 0 → ⊥) → convention ≡ convention_on mask closed convention
  unfolding convention_on
  on_masked h = go mask closed h
    where
      go : (m : ℕ) (c : List ℕ) → (m ≡ 0 → ⊥) → convention ≡ convention_on m c convention
      go zero c h = absurd (h refl)
      go (suc m) c h = refl
