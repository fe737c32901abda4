-- What the functions answer that add a date unless it adjusts to the same day as the newest.
-- Assumes nothing.
use Rattle.std.specs.Prelude.{ℕ, ◌≡◌, Bool, List, set, Result}
use Rattle.refusal.specs.declared.Refusal.{Refusal}
use Rattle.refusal.specs.Answer.{Answer, answered}
use Rattle.calendar.specs.declared.Convention.{Convention}
use Rattle.steps.specs.Generate.{Lists}
use Rattle.working.specs.declared.Tip.{Tip}
use Rattle.working.specs.Step.{Gives, Step}
use Rattle.working.specs.Part.{Work, Placed, held, place_of}
use Rattle.working.specs.Turning.{Looped}

-- the lists stand, the front is known of their newest date, and it is paid
abbrev pub Adding : ℕ → List ℕ → Convention → Bool → ℕ → Answer Lists → Result Tip Refusal → Work → List ℕ → Type 0
Adding mask closed convention back room o r w paid =
    Gives (λ t. held back t.n w) (Looped mask closed convention back room w paid) o (answered r)

-- the promise of a step that takes lists with a newest date on
abbrev pub Adds : (Stands : Work → List ℕ → Tip → Type 0) (back : Bool) (does : Lists → Answer Lists) (tip : Tip) (w : Work) (paid : List ℕ) (r : Result Tip Refusal) (w' : Work) (paid' : List ℕ) → Type 0
Adds Stands back does tip w paid r w' paid' =
    Step (Stands w paid tip) (λ t. held back t.n w') (Stands w' paid') (does (held back tip.n w)) (answered r)

-- a date that was put behind those of a tip, with the adjusted date that goes with it
pub record Stood (back : Bool) (room : ℕ) (tip : Tip) (known : ℕ) (paid : List ℕ) (w : Work) (paid' : List ℕ) (t : Tip) : Type 0 where
  pub placed : Placed room t.n w
  pub as_known : t.front ≡ known
  pub as_start : t.start ≡ tip.start
  pub pays : paid' ≡ set paid (place_of back tip.n) known

abbrev pub PutFront : (back : Bool) (room : ℕ) (tip : Tip) (known : ℕ) (paid : List ℕ) (o : Answer Lists) (r : Result Tip Refusal) (w : Work) (paid' : List ℕ) → Type 0
PutFront back room tip known paid o r w paid' =
    Gives (λ t. held back t.n w) (Stood back room tip known paid w paid') o (answered r)
