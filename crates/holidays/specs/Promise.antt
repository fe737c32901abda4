-- What the import promises: the answer and the lent list, on every file and every list.
-- Assumes nothing.
use Rattle.std.specs.Prelude.{ℕ, ◌≡◌, Result, Ok, Err, List, ◌++◌, length, drop}
use Rattle.refusal.specs.Refusals.{number_of}
use Rattle.holidays.specs.declared.Fault.{Fault}
use Rattle.holidays.specs.Import.{Import, days, refused_at_lem, import_of}

-- how many days, or the number and the line
pub data Told : Type 0 where
  counted : ℕ → Told
  refused_at : ℕ → ℕ → Told

-- what the code's result says
abbrev pub told : Result ℕ Fault → Told
told (Ok n) = counted n
told (Err f) = refused_at (number_of f.refusal) f.line

unfoldable pub answer_of : Import → Told
answer_of (days ds) = counted (length ds)
answer_of (refused_at_lem number line) = refused_at number line

-- the days over the start of the list, later places as before; a refusal leaves the list as it was
unfoldable pub list_of : Import → List ℕ → List ℕ
list_of (days ds) list = ds ++ drop (length ds) list
list_of (refused_at_lem number line) list = list

pub record Imports (file list : List ℕ) (r : Result ℕ Fault) (list' : List ℕ) : Type 0 where
  pub answer : told r ≡ answer_of (import_of file (length list))
  pub written : list' ≡ list_of (import_of file (length list)) list
