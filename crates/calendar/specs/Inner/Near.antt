-- What a day that was adjusted tells for a day near it. Of the place beside it nothing is promised: it is a guess.
-- Assumes nothing.
use Rattle.std.specs.Prelude.{ℕ, ◌≤◌, ◌≡◌, true, List, Result, Ok, Err}
use Rattle.calendar.specs.declared.Convention.{Convention}
use Rattle.calendar.specs.declared.search.Near.{Near}
use Rattle.calendar.specs.declared.search.Placed.{Placed}
use Rattle.calendar.specs.declared.search.Told.{Told}
use Rattle.calendar.specs.Adjust.{same_month, adjusted}
use Rattle.calendar.specs.Moves.{moved, moved_from}
use Rattle.calendar.specs.Inner.Reach.{UpTo}
use Rattle.refusal.specs.Answer.{Answer, given, answered, then}
use Rattle.refusal.specs.declared.Refusal.{Refusal}

-- the days from one to another lie in one month
pub record OneMonth (from to : ℕ) : Type 0 where
  pub alike : (a b : ℕ) → from ≤ a → a ≤ b → b ≤ to → same_month a b ≡ true

-- so do the days handed on, if a date is
unfoldable pub Known : Result Placed Refusal → Type 0
Known (Ok found) = OneMonth found.near.from found.near.to
Known (Err r) = Unit {0}

-- the adjusted date alone
unfoldable pub placed : Result Placed Refusal → Answer ℕ
placed r = then (answered r) (λ found. given found.day)

-- what a search found: the adjusted date or its refusal, and what is known beside it
pub record Adjusts (mask : ℕ) (closed : List ℕ) (convention : Convention) (day : ℕ) (r : Result Placed Refusal) : Type 0 where
  pub says : placed r ≡ adjusted mask closed convention day
  pub known : Known r

-- the move of what was found, and what is known beside it or was before
pub record Measured (day : ℕ) (found : Result Placed Refusal) (near : Near) (r : Told) : Type 0 where
  pub says : UpTo day (placed found) → moved r.moved ≡ moved_from (given day) (placed found)
  pub known : Known found → OneMonth near.from near.to → OneMonth r.near.from r.near.to

-- an adjustment, and what is known beside it
pub record Tells (mask : ℕ) (closed : List ℕ) (convention : Convention) (day : ℕ) (r : Told) : Type 0 where
  pub says : moved r.moved ≡ moved_from (given day) (adjusted mask closed convention day)
  pub known : OneMonth r.near.from r.near.to
