-- What the last date of a forward build leaves: the list, and what a day adjusts to by the convention of the last date.
-- Assumes nothing.
use Rattle.std.specs.Prelude.{ℕ, ◌≡◌, true, false, List, Result}
use Rattle.refusal.specs.declared.Refusal.{Refusal}
use Rattle.refusal.specs.Answer.{Answer, answered}
use Rattle.calendar.specs.Adjust.{adjusted}
use Rattle.steps.specs.declared.Request.{Request}
use Rattle.steps.specs.Generate.{Lists, closing}
use Rattle.steps.specs.Inner.Same.{same_convention}
use Rattle.steps.specs.Inner.Sure.{Surely}
use Rattle.working.specs.declared.Tip.{Tip}
use Rattle.working.specs.Step.{Gives, Step}
use Rattle.working.specs.Part.{Work, Placed, held}
use Rattle.working.specs.Turning.{Ahead}
use Rattle.forwards.specs.declared.closing.Closing.{Closing}

-- the front is known by the convention of the last date too
pub record FrontServes (q : Request) (front : ℕ) : Type 0 where
  pub known : front ≡ 0 → ⊥
  pub same : same_convention q.terminal q.convention ≡ true

-- the lists stand, and the day adjusts so
pub record Shut (q : Request) (closed : List ℕ) (room : ℕ) (w : Work) (c : Closing) : Type 0 where
  pub placed : Placed room c.n w
  pub sure : Surely (adjusted q.mask closed q.terminal) c.last

abbrev pub Shuts : (q : Request) (closed : List ℕ) (room : ℕ) (o : Answer Lists) (r : Result Closing Refusal) (w : Work) → Type 0
Shuts q closed room o r w = Gives (λ c. held false c.n w) (Shut q closed room w) o (answered r)

-- the promise of the last date behind those of a tip
abbrev pub Closes : (q : Request) (closed : List ℕ) (room : ℕ) (tip : Tip) (w : Work) (r : Result Closing Refusal) (w' : Work) → Type 0
Closes q closed room tip w r w' =
    Step (Ahead q.mask closed q.convention false room w tip) (λ c. held false c.n w') (Shut q closed room w') (closing q closed room (held false tip.n w)) (answered r)
