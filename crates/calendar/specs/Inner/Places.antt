-- Where a day stands in a list of closed dates.
-- Assumes nothing.
use Rattle.std.specs.Prelude.{ℕ, ◌≤◌, ◌<◌, ◌≡◌, true, List, length, get_or}
use Rattle.calendar.specs.Open.{closed_ok}

-- every date before place i is before the day; every date from place i on is after it
pub record Below (closed : List ℕ) (i day : ℕ) : Type 0 where
  pub before : (k : ℕ) → k < i → get_or closed k 0 < day

pub record Above (closed : List ℕ) (i day : ℕ) : Type 0 where
  pub after : (k : ℕ) → i ≤ k → k < length closed → day < get_or closed k 0

-- i is a place of the list or its end and, in a list that keeps its rule, the first place whose date is at least x
pub record LowerBound (closed : List ℕ) (x i : ℕ) : Type 0 where
  pub within : i ≤ length closed
  pub below : closed_ok closed ≡ true → Below closed i x
  pub from : closed_ok closed ≡ true → (k : ℕ) → i ≤ k → k < length closed → x ≤ get_or closed k 0

-- the same place, known to lie from `lo` to `hi`
pub record Bracket (closed : List ℕ) (x lo hi : ℕ) : Type 0 where
  pub order : lo ≤ hi
  pub within : hi ≤ length closed
  pub below : closed_ok closed ≡ true → Below closed lo x
  pub from : closed_ok closed ≡ true → (k : ℕ) → hi ≤ k → k < length closed → x ≤ get_or closed k 0
