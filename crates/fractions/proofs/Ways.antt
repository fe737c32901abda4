-- The places of two days, of what the calls for their fields gave.
-- Assumes nothing.
use Prim.Native.Nat.{ℕ, ◌+◌, ◌*◌, ◌≤◌, min}
use mathlib.Core.Path.{◌≡◌, refl}
use Rattle.date.specs.declared.Fields.{Fields}
use Rattle.date.specs.Civil.{fields_of}
use Rattle.date.specs.Laws.Round.{fields_valid}
use Rattle.fractions.specs.Fractions.{place}
use Rattle.fractions.specs.Laws.Order.{place_le}

-- a year has twelve months
pub month_few : (n : ℕ) → (fields_of n).month ≤ 12
month_few n = (fields_valid n).twelve

-- a day's place, of what the calls gave
pub place_is : (n d : ℕ) (f : Fields) → f ≡ fields_of n → d ≡ min f.day 30 → 360 * f.year + 30 * f.month + d ≡ place n
unfolding place
place_is n d f e h = rw (h, e) refl

-- the place of a later day is no smaller, of what two calls gave
pub places : (a b x y : ℕ) → 1 ≤ a → a ≤ b → x ≡ place a → y ≡ place b → x ≤ y
places a b x y o h p q = rw (p, q) (place_le a b o h)
