-- What is left of dates that were moved.
-- Assumes nothing.
use Rattle.std.specs.Prelude.{ℕ, ◌<◌, ◌≡◌, List, length, get_or, Result, Ok, Err}
use Rattle.refusal.specs.declared.Refusal.{Refusal}
use Rattle.refusal.specs.Refusals.{number_of}
use Rattle.refusal.specs.Answer.{Answer, given, refused}
use Rattle.date.specs.declared.Date.{Date}
use Rattle.date.specs.Date.{dated}
use Rattle.steps.specs.Entries.{Pairs}

-- what a call answers that moves dates
abbrev pub Done : Type 0
Done = Result (Unit {0}) Refusal

-- and what it left, unless it refused
unfoldable pub done : {A : Type 0} → Done → A → Answer A
done (Ok u) left = given left
done (Err r) left = refused (number_of r)

-- the dates as generated, after the third Wednesdays, and the paid ones
abbrev pub pairs : (work paid : List ℕ) → Pairs
pairs work paid = record { paid = paid; unadjusted = work }

-- a call that may answer so answers each day of the list as `f` says
abbrev pub MovesAs : (ℕ → Result Date Refusal → Type 0) → (ℕ → Answer ℕ) → List ℕ → Type 0
MovesAs post f days = (k : ℕ) → k < length days → (r : Result Date Refusal) → post (get_or days k 0) r → dated r ≡ f (get_or days k 0)
