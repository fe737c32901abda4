-- What the question's promise speaks of: what the list of document 01's steps shows, with no room limit, and an answer that is settled by it.
-- Assumes nothing.
use Rattle.std.specs.Prelude.{ℕ, ◌≡◌, List}
use Rattle.refusal.specs.Answer.{Answer, given, refused}
use Rattle.steps.specs.declared.Request.{Request}
use Rattle.steps.specs.Laws.Table.{NoneHolds, FirstHolds}
use Rattle.steps.specs.Build.{Schedule}
use Rattle.outcomes.specs.NoLimit.{NoLimit}
use Rattle.coming.specs.Coming.{Comes, asked_rows}
use Rattle.coming.specs.Shows.{Shows}

-- what the steps' own list shows: they give it with every room from some room on, generate then finish, not cut at 4,096
pub record Listed (q : Request) (closed : List ℕ) (x : ℕ) (a : Comes) : Type 0 where
  pub schedule : Schedule
  pub no_limit : NoLimit q closed (given schedule)
  pub shows : Shows schedule x a

-- an answer that is refused with the first row that holds, and otherwise is what the list shows
pub record Meets (q : Request) (closed : List ℕ) (x : ℕ) (o : Answer Comes) : Type 0 where
  pub refused_first : (n : ℕ) → FirstHolds (asked_rows q closed x) n → o ≡ refused n
  pub listed_else : NoneHolds (asked_rows q closed x) → (a : Comes) × (o ≡ given a) × Listed q closed x a
