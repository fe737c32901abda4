-- What the steps of the questions promise each other: the closed dates of a stretch, a day found in the week, and the year found by halving.
-- Assumes nothing.
use Rattle.std.specs.Prelude.{ℕ, ◌+◌, ◌-◌, ◌≤◌, ◌<◌, ◌≡◌, Bool, true, false, List, [], ◌∷◌, ltb, length, drop}
use Rattle.date.specs.Date.{SPAN_LAST}
use Rattle.calendar.specs.Open.{weekly_closed, member, ascending}
use Rattle.opendays.specs.declared.listed.Passed.{Passed}
use Rattle.opendays.specs.Count.{tally, open_between}
use Rattle.opendays.specs.Index.{count_in, year_before}

-- the dates of an ascending list before a day, but for those that are weekly closed
unfoldable pub counted_by : Bool → Bool → ℕ → ℕ
counted_by false w rest = 0
counted_by true true rest = rest
counted_by true false rest = 1 + rest

unfoldable pub listed_before : ℕ → ℕ → List ℕ → ℕ
listed_before mask to [] = 0
listed_before mask to (x ∷ xs) = counted_by (ltb x to) (weekly_closed mask x) (listed_before mask to xs)

-- and the dates from the day on
unfoldable pub unless_before : Bool → ℕ → List ℕ → List ℕ → List ℕ
unless_before true x xs rest = rest
unless_before false x xs rest = x ∷ xs

unfoldable pub listed_from : ℕ → List ℕ → List ℕ
listed_from to [] = []
listed_from to (x ∷ xs) = unless_before (ltb x to) x xs (listed_from to xs)

pub record PassedBy (mask to : ℕ) (closed xs : List ℕ) (r : Passed) : Type 0 where
  pub within : r.place ≤ length closed
  pub count : r.count ≡ listed_before mask to xs
  pub rest : drop r.place closed ≡ listed_from to xs

-- what is left of a closed list from a day on: it ascends, and has the list's days
pub record Rest (closed xs : List ℕ) (from : ℕ) : Type 0 where
  pub sorted : ascending from SPAN_LAST xs ≡ true
  pub same : (d : ℕ) → from ≤ d → member d closed ≡ member d xs

-- the open days of a stretch, and the place where the closed dates go on
pub record Stretch (mask : ℕ) (closed : List ℕ) (from to : ℕ) (r : Passed) : Type 0 where
  pub within : r.place ≤ length closed
  pub count : r.count ≡ open_between mask closed from to
  pub rest : Rest closed (drop r.place closed) to

-- such a day, from a day on, with so many such days before it
pub record After (such : ℕ → Bool) (from before day : ℕ) : Type 0 where
  pub order : from ≤ day
  pub is_such : such day ≡ true
  pub counted : tally such from (day - from) ≡ before

pub record Found (such : ℕ → Bool) (from before within day : ℕ) : Type 0 where
  pub after : After such from before day
  pub soon : day < from + within

-- a place found by halving
pub record Halved (index : List ℕ) (rank from r : ℕ) : Type 0 where
  pub same : r ≡ year_before index rank 600 from 600
  pub low : from ≤ r
  pub high : r < 600
  pub below : count_in index r < rank
