-- Multiplying a period by a count (document 01, module 2).
-- Assumes nothing.
use Rattle.std.specs.Prelude.{ℕ, [], ◌∷◌, Bool, true, false, ◌&&◌, ℤ, pos, negsuc, ◌*ℤ◌}
use Rattle.std.specs.Int.Signed.{le_z, lt_z}
use Rattle.refusal.specs.Answer.{Answer, given, need, at_place, TENOR}
use Rattle.period.specs.declared.Unit.{Unit}
use Rattle.period.specs.declared.Unit.TheVariants.{Days, Weeks, Months, Years}
use Rattle.period.specs.declared.Period.{Period}

abbrev pub is_negative : ℤ → Bool
is_negative (pos n) = false
is_negative (negsuc n) = true

abbrev pub is_positive : ℤ → Bool
is_positive z = lt_z (pos 0) z

-- a number of 32 bits with sign: -2147483648 (which is `negsuc 2147483647`) to 2147483647
unfoldable pub fits32 : ℤ → Bool
fits32 z = le_z (negsuc 2147483647) z && le_z z (pos 2147483647)

unfoldable pub times_of : ℤ → Unit → ℤ → Answer Period
times_of length unit count = need TENOR (fits32 (length *ℤ count)) (given (record { length = length *ℤ count; unit = unit }))

-- the units in document 01's order: a unit's number is its place
abbrev pub unit_of : ℕ → Answer Unit
unit_of = at_place (Days ∷ Weeks ∷ Months ∷ Years ∷ [])
