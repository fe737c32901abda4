-- A line whose first byte starts no name that counts, and one that starts with a usual name.
-- Assumes nothing.
use Rattle.std.specs.Prelude.{ℕ, ◌+◌, ◌≤◌, ◌<◌, length, get_or, ◌≡◌, Bool, true}
use Rattle.holidays.specs.Words.{Bytes}
use Rattle.holidays.specs.Content.{content_of, other, name_of}
use Rattle.holidays.specs.Inner.Along.{Before, ahead}

pub record Others (file : Bytes) (at : ℕ) (r : Bool) : Type 0 where
  pub so : r ≡ true → (line : ℕ) → Before file at line → name_of (content_of (ahead file at line)).name ≡ other

-- the bytes of a word stand at a place of the file
pub record Spelt (file : Bytes) (at : ℕ) (word : Bytes) : Type 0 where
  pub within : at + length word ≤ length file
  pub bytes : (k : ℕ) → k < length word → get_or file (at + k) 0 ≡ get_or word k 0

pub record Stands (file : Bytes) (at : ℕ) (word : Bytes) (r : Bool) : Type 0 where
  pub so : r ≡ true → Spelt file at word
