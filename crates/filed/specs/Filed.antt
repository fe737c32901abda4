-- Document 02, L10, for other languages: the import and the export in one number.
-- Assumes nothing.
use Rattle.std.specs.Prelude.{ℕ, ◌≡◌, List, leb, ℤ, pos, neg_ℤ, length, set}
use Rattle.refusal.specs.Answer.{ROOM}
use Rattle.crossing.specs.Answers.{one_number_of}
use Rattle.holidays.specs.Words.{pick}
use Rattle.holidays.specs.Import.{Import, days, refused_at_lem, import_of}
use Rattle.holidays.specs.Promise.{list_of}
use Rattle.publishing.specs.File.{export_of}
use Rattle.publishing.specs.Promise.{bytes_of}

-- how many days, or minus the number of the refusal
unfoldable pub import_number : Import → ℤ
import_number (days ds) = pos (length ds)
import_number (refused_at_lem number line) = neg_ℤ (pos number)

-- the line of the refusal; 0 where there is none
unfoldable pub line_of : Import → ℕ
line_of (days ds) = 0
line_of (refused_at_lem number line) = line

-- a list without a place for the line is 14, before all else
unfoldable pub import_into : List ℕ → List ℕ → List ℕ → Import
import_into file list line = pick (leb 1 (length line)) (import_of file (length list)) (refused_at_lem ROOM 0)

pub record Filed (file list line : List ℕ) (r : ℤ) (list' line' : List ℕ) : Type 0 where
  pub answer : r ≡ import_number (import_into file list line)
  pub dates : list' ≡ list_of (import_into file list line) list
  pub place : line' ≡ set line 0 (line_of (import_into file list line))

-- how many bytes, or minus the number of the refusal
pub record Published (list file : List ℕ) (r : ℤ) (file' : List ℕ) : Type 0 where
  pub answer : r ≡ one_number_of length (export_of list (length file))
  pub bytes : file' ≡ bytes_of (export_of list (length file)) file
