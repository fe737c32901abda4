-- A run: bytes of a body that are copied together, behind its first.
-- Assumes nothing.
use Rattle.std.specs.Prelude.{ℕ, ◌+◌, ◌-◌, ◌≤◌, ◌≡◌, List, ◌++◌, length, take, drop}
use Rattle.feeding.specs.declared.State.{State}
use Rattle.feeding.specs.Feed.{at, settled, eaten, laid}

-- so many bytes of the body are due, and have a place
pub record Run (s : State) (n : ℕ) : Type 0 where
  pub body : s.phase ≡ 4
  pub due : n ≤ s.due
  pub kept : s.kept + n ≤ 20000
  pub fed : s.fed + n ≤ 20000

-- a number of bytes that have a place, at most those due
pub record Most (bytes-due stored taken n : ℕ) : Type 0 where
  pub due : n ≤ bytes-due
  pub kept : (n ≡ 0 → ⊥) → stored + n ≤ 20000
  pub fed : (n ≡ 0 → ⊥) → taken + n ≤ 20000

pub record Running (s : State) (left n : ℕ) : Type 0 where
  pub within : n ≤ left
  pub runs : (n ≡ 0 → ⊥) → Run s n

-- the reader behind a run
unfoldable pub ran : State → ℕ → State
ran s n = settled (at s.phase s.tag s.high s.sound s.finished (s.due - n) (s.kept + n) (s.fed + n) s.size s.places)

-- the buffer with a run from a place on
unfoldable pub copied : List ℕ → ℕ → List ℕ → List ℕ
copied buffer from part = take from buffer ++ part ++ drop (from + length part) buffer

-- a part taken in
pub record Taken (s : State) (part buffer : List ℕ) (s' : State) (buffer' : List ℕ) : Type 0 where
  pub state : s' ≡ eaten s part
  pub bytes : buffer' ≡ laid s part buffer
