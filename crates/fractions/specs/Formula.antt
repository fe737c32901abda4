-- 30E/360 as the 2006 ISDA Definitions print it, 4.16 (g), over whole numbers with sign. `numerator_is` (Laws/Thirty) says that the
-- numerator is this number.
-- Assumes nothing.
use Rattle.std.specs.Prelude.{ℕ, eqb, ℤ, pos, ◌+ℤ◌, ◌*ℤ◌}
use Rattle.std.proofs.Math.IntN.{sub_ℕ}
use Rattle.date.specs.declared.Fields.{Fields}
use Rattle.date.specs.Civil.{pick_n}

-- a day of the month, where 31 is read as 30
unfoldable pub read_day : ℕ → ℕ
read_day d = pick_n (eqb d 31) 30 d

-- 360 * (Y2 - Y1) + 30 * (M2 - M1) + (D2 - D1)
unfoldable pub formula : Fields → Fields → ℤ
formula p q =
    pos 360 *ℤ sub_ℕ q.year p.year +ℤ pos 30 *ℤ sub_ℕ q.month p.month +ℤ sub_ℕ (read_day q.day) (read_day p.day)
