-- An unfolded line cut off the front of the bytes, byte by byte, as the code reads it.
-- Assumes nothing.
use Rattle.std.specs.Prelude.{ℕ, suc, Bool, true, false, ◌&&◌, ◌||◌, [], ◌∷◌, eqb}
use Rattle.holidays.specs.Words.{Bytes, LF, CR, TAB, BLANK}
use Rattle.holidays.specs.Lines.{starts_with}

-- its bytes, what lies behind it, and the number of the line there
pub record Cut : Type 0 where
  pub bytes : Bytes
  pub number : ℕ
  pub rest : Bytes

unfoldable pub cut_byte : Bool → Bool → ℕ → Cut → Cut → Cut
cut_byte true r b behind along = behind
cut_byte false true b behind along = along
cut_byte false false b behind along = record { bytes = b ∷ along.bytes; number = along.number; rest = along.rest }

unfoldable pub cut_start : Bool → ℕ → Bytes → Cut → Cut
cut_start true n s along = along
cut_start false n s along = record { bytes = []; number = n; rest = s }

-- from the start of line n, right behind a line end, or from inside it
unfoldable pub cut_from : Bool → ℕ → Bytes → Cut
cut_from start n [] = record { bytes = []; number = n; rest = [] }
cut_from true n (b ∷ s) = cut_start (eqb b BLANK || eqb b TAB) n (b ∷ s) (cut_from false n s)
cut_from false n (b ∷ s) = cut_byte (eqb b LF) (eqb b CR && starts_with LF s) b (cut_from true (suc n) s) (cut_from false n s)

-- whether the bytes start with a blank or a tab
unfoldable pub folds : Bytes → Bool
folds [] = false
folds (b ∷ s) = eqb b BLANK || eqb b TAB
