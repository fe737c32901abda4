-- Where a text stands in a lent list of bytes, and what is left of the list.
-- Assumes nothing.
use Rattle.std.specs.Prelude.{ℕ, ◌+◌, ◌≡◌, List, ◌++◌, length, take, drop}
use Rattle.publishing.specs.File.{date_text}

-- a text was put at a place: it ends at the answer, and all before and behind it is as it was
pub record Put (text : List ℕ) (at : ℕ) (old : List ℕ) (end : ℕ) (new : List ℕ) : Type 0 where
  pub ends : end ≡ at + length text
  pub before : take end new ≡ take at old ++ text
  pub behind : drop end new ≡ drop end old
  pub size : length new ≡ length old

-- so was a date, in eight bytes
pub record PutDate (day at : ℕ) (old : List ℕ) (end : ℕ) (new : List ℕ) : Type 0 where
  pub text : Put (date_text day) at old end new
  pub eight : end ≡ at + 8
