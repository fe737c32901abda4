-- Sixteen bits as a signed number.
-- Assumes nothing.
use Prim.Native.Nat.{ℕ, zero, suc, ◌-◌, ◌<◌, ◌≤◌}
use mathlib.Core.Path.{◌≡◌, refl, sym, ap, ◌∙◌}
use mathlib.Core.Bool.{Bool, true, false, cond}
use native.Mathlib.Omega.{arith}
use borrow.Author.Rules.{rules}
use borrow.Author.Tests.{lt-ltb, le-ltb}
use lib.Dec.{ltb}
use lib.IntN.{pos, negsuc, sub_ℕ, ◌-ℤ◌}
use mir.Syntax.{w32}
use mir.Val.{SFits, to_z, of_z}
use mir.Facts.{to_z-of_z}
use mir.ValLaws.{to_z_pos}
use Rattle.request.specs.Format.{signed16}
use Rattle.request.specs.Laws.Picks.{taken, left}

pos_sub : (a b : ℕ) → pos a -ℤ pos b ≡ sub_ℕ a b
pos_sub a zero = simp (le-ltb a 0 (omega arith)) (ap pos (omega arith))
pos_sub a (suc b) = refl

pub signed_small : {n : ℕ} → n < 32768 → to_z w32 n ≡ signed16 n
unfolding signed16
signed_small {n} h = to_z_pos w32 n (omega arith) ∙ sym (taken _ _ (lt-ltb _ _ h))

less : (n : ℕ) → n < 65536 → to_z w32 n -ℤ pos 65536 ≡ sub_ℕ n 65536
less n h = rw (to_z_pos w32 n (omega arith)) (pos_sub n 65536)

fits_by : (n : ℕ) (t : Bool) → n < 65536 → SFits w32 (cond t (negsuc (65536 - suc n)) (pos (n - 65536)))
fits_by n true h = record { sfits = omega arith }
fits_by n false h = record { sfits = omega arith }

pub signed_fits : {n : ℕ} → n < 65536 → SFits w32 (to_z w32 n -ℤ pos 65536)
signed_fits {n} h = rw (less n h) (fits_by n (ltb n 65536) h)

pub signed_large : (n : ℕ) → n < 65536 → 32768 ≤ n → to_z w32 (of_z w32 (to_z w32 n -ℤ pos 65536)) ≡ signed16 n
unfolding signed16
signed_large n h l = to_z-of_z {w = w32} {z = to_z w32 n -ℤ pos 65536} (signed_fits h) ∙ less n h ∙ sym (left _ _ (le-ltb _ _ l))

pub ruleset signs = (signed_small, signed_fits, signed_large, rules)
