-- What the second date of a forward build leaves: the list, and the seed; and so the first two, with what one of them adjusts to.
-- Assumes nothing.
use Rattle.std.specs.Prelude.{ℕ, ◌≡◌, refl, false, Result, Ok, Err, IsErr, IsErrAnd}
use Rattle.std.proofs.Common.{sym}
use Rattle.refusal.specs.declared.Refusal.{Refusal}
use Rattle.refusal.specs.Refusals.{number_of}
use Rattle.refusal.specs.Answer.{Answer, given, answered}
use Rattle.refusal.specs.Laws.Answers.{handed_on}
use Rattle.steps.specs.Generate.{Lists, Opened}
use Rattle.steps.specs.declared.Sure.{Sure}
use Rattle.steps.specs.Inner.Sure.{Surely}
use Rattle.opening.specs.declared.Opened as declared
use Rattle.opening.specs.declared.Opening.{Opening}
use Rattle.working.specs.Step.{Gives, Step, gives, refuses, step_given, step_refused, step_kept}
use Rattle.working.specs.Part.{Work, Placed, held}
use Rattle.opening.specs.First.{begin_with, Sound}

-- n dates of a forward build, and the seed
abbrev pub opening : Work → ℕ → ℕ → Opened
opening w n seed = record { lists = held false n w; seed = seed }

abbrev pub opened_at : ℕ → ℕ → Opening
opened_at n seed = record { n = n; seed = seed }

-- the promise of a step that takes lists of n dates on, and finds the seed
abbrev pub Opens : (Premise : ℕ → Work → Type 0) (room : ℕ) (does : Lists → Answer Opened) (n : ℕ) (w : Work) (r : Result Opening Refusal) (w' : Work) → Type 0
Opens Premise room does n w r w' =
    Step (Premise n w) (λ o. opening w' o.n o.seed) (λ o. Placed room o.n w') (does (held false n w)) (answered r)

pub opened_ready : {room n seed : ℕ} {w : Work} → Placed room n w → Gives (λ (o : Opening). opening w o.n o.seed) (λ o. Placed room o.n w) (given (opening w n seed)) (given (opened_at n seed))
opened_ready {n = n} {seed = seed} p = gives (opened_at n seed) refl p

pub ruleset opens = (opened_ready)

-- ---- the first two dates
abbrev pub OpenedForward : (A : ℕ → Answer ℕ) (room : ℕ) (o : Answer Opened) (r : Result declared.Opened Refusal) (w : Work) → Type 0
OpenedForward A room o r w =
    Gives (λ o. opening w o.begin.n o.seed) (λ o. Sound A room w o.begin) o (answered r)

abbrev pub OpensForward : (A : ℕ → Answer ℕ) (Premise : ℕ → Work → Type 0) (room : ℕ) (does : Lists → Answer Opened) (n : ℕ) (w : Work) (r : Result declared.Opened Refusal) (w' : Work) → Type 0
OpensForward A Premise room does n w r w' =
    Step (Premise n w) (λ o. opening w' o.begin.n o.seed) (λ o. Sound A room w' o.begin) (does (held false n w)) (answered r)

-- after the second
module _ {A : ℕ → Answer ℕ} {room : ℕ} {w : Work} {P : Type 0} {o : Answer Opened} (r : Result Opening Refusal) (s : Step P (λ (o : Opening). opening w o.n o.seed) (λ o. Placed room o.n w) o (answered r)) (p : P) where
  pub forward_refused : (k : Refusal) → r ≡ Err k → (r' : Result declared.Opened Refusal) → IsErr r' × IsErrAnd r' (λ j. j ≡ k) → OpenedForward A room o r' w
  forward_refused k e r' h = rw (handed_on r' k h) (refuses (number_of k) (sym (step_refused r s k e p)))

  pub forward_ready : (c : Opening) (sure : Sure) → r ≡ Ok c → Surely A sure → OpenedForward A room o (Ok (record { begin = begin_with sure c.n; seed = c.seed })) w
  forward_ready c sure e known =
      gives (record { begin = begin_with sure c.n; seed = c.seed }) (sym (step_given r s c e p)) (record { placed = step_kept r s c e p; sure = known })
