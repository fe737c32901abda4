-- The unadjusted dates follow the merges: what stood beside a date that was kept moves with it.
-- Assumes nothing.
use Rattle.std.specs.Prelude.{ℕ, ◌-◌, Bool, true, false, List, eqb, ltb, length, get_or, set}

unfoldable pub set_if : Bool → (l : List ℕ) (to from : ℕ) → List ℕ
set_if true l to from = set l to (get_or l from 0)
set_if false l to from = l

-- at the end, where a date went
unfoldable pub follow_end : ℕ → List ℕ → List ℕ
follow_end to l = set_if (ltb to (length l)) l (to - 1) to

-- at the front
unfoldable pub follow_front : ℕ → List ℕ → List ℕ
follow_front from l = set_if (eqb from 1) l 1 0
