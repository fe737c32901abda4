-- What the export promises: the answer and the lent file, on every list and every file.
-- Assumes nothing.
use Rattle.std.specs.Prelude.{ℕ, ◌≡◌, Result, List, ◌++◌, length, drop}
use Rattle.refusal.specs.declared.Refusal.{Refusal}
use Rattle.refusal.specs.Answer.{Answer, given, refused, answered}
use Rattle.holidays.specs.Words.{Bytes}
use Rattle.publishing.specs.File.{export_of}

-- how many bytes, or the number
unfoldable pub answer_of : Answer Bytes → Answer ℕ
answer_of (given s) = given (length s)
answer_of (refused number) = refused number

-- the bytes over the start of what was lent, later places as before; a refusal leaves all as it was
unfoldable pub bytes_of : Answer Bytes → List ℕ → List ℕ
bytes_of (given s) file = s ++ drop (length s) file
bytes_of (refused number) file = file

pub record Exports (list file : List ℕ) (r : Result ℕ Refusal) (file' : List ℕ) : Type 0 where
  pub answer : answered r ≡ answer_of (export_of list (length file))
  pub bytes : file' ≡ bytes_of (export_of list (length file)) file
