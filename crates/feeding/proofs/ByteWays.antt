-- What is known where a byte is kept.
-- Assumes nothing.
use Prim.Native.Nat.{◌≤◌, ◌<◌}
use mathlib.Core.Path.{◌≡◌, refl, sym, ◌∙◌}
use mathlib.Core.Bool.{Bool, true, false, false≢true}
use native.Mathlib.Omega.{arith}
use borrow.Author.Tests.{ltb-true, eqb-false}
use lib.Dec.{ltb, eqb}
use Rattle.request.specs.Format.{pick}
use Rattle.feeding.specs.declared.State.{State}
use Rattle.feeding.specs.Feed.{keeps_of}

-- what a byte that is kept tells
told : (a b c d : Bool) → pick a (pick b (pick c false d) false) false ≡ true → (b ≡ true) × (c ≡ false)
unfolding pick
told true true false d h = (refl, refl)
told true true true d h = absurd (false≢true h)
told true false c d h = absurd (false≢true h)
told false b c d h = absurd (false≢true h)

module _ (s : State) {r : Bool} (is : r ≡ keeps_of s) (yes : r ≡ true) where
  known : (ltb s.kept 20000 ≡ true) × (eqb s.due 0 ≡ false)
  unfolding keeps_of
  known = told (ltb s.fed 20000) (ltb s.kept 20000) (eqb s.due 0) (pick (eqb s.phase 4) true (eqb s.phase 3)) (sym is ∙ yes)

  pub kept_small : s.kept < 20000
  kept_small = ltb-true _ _ known.0

  pub due_some : 1 ≤ s.due
  due_some = omega (arith, eqb-false s.due 0 known.1)
