-- What the first date of a forward build leaves, or the first two for CDS and CDS2015: the list, and what one of its dates adjusts to.
-- Assumes nothing.
use Rattle.std.specs.Prelude.{ℕ, ◌≡◌, false, Result, Ok}
use Rattle.refusal.specs.declared.Refusal.{Refusal}
use Rattle.refusal.specs.Answer.{Answer, given, refused, answered}
use Rattle.refusal.specs.Laws.Answers.{was_given}
use Rattle.steps.specs.Generate.{Lists}
use Rattle.steps.specs.declared.Sure.{Sure}
use Rattle.steps.specs.Inner.Sure.{Surely}
use Rattle.working.specs.declared.Begin.{Begin}
use Rattle.working.specs.Step.{Gives, Step, seen, Kept, gives, refuses}
use Rattle.working.specs.Part.{Work, Placed, held}

abbrev pub begin_with : Sure → ℕ → Begin
begin_with sure n = record { n = n; sure = sure }

-- the lists stand, and what one of the dates adjusts to is so
pub record Sound (A : ℕ → Answer ℕ) (room : ℕ) (w : Work) (begin : Begin) : Type 0 where
  pub placed : Placed room begin.n w
  pub sure : Surely A begin.sure

-- the promise of a step that takes lists of n dates on, and may know what one of them adjusts to
abbrev pub Firsts : (A : ℕ → Answer ℕ) (Premise : ℕ → Work → Type 0) (room : ℕ) (does : Lists → Answer Lists) (n : ℕ) (w : Work) (r : Result Begin Refusal) (w' : Work) → Type 0
Firsts A Premise room does n w r w' =
    Step (Premise n w) (λ begin. held false begin.n w') (Sound A room w') (does (held false n w)) (answered r)

-- ---- what is known is put beside the count
with_known : {A : ℕ → Answer ℕ} {room : ℕ} {w : Work} {o : Answer Lists} {r : Answer Begin} (sure : Sure) (f : Answer ℕ) → Gives (λ n. held false n w) (λ n. Placed room n w) o f → Surely A sure → r ≡ seen (begin_with sure) f → Gives (λ (begin : Begin). held false begin.n w) (Sound A room w) o r
unfolding seen Kept
with_known sure (given n) g s e = rw e (gives (begin_with sure n) g.says (record { placed = g.keeps; sure = s }))
with_known sure (refused k) g s e = rw e (refuses k g.says)

pub first_with : {A : ℕ → Answer ℕ} {room : ℕ} {w : Work} {o : Answer Lists} {P : Type 0} {r : Answer Begin} (sure : Sure) (f : Result ℕ Refusal) → Step P (λ n. held false n w) (λ n. Placed room n w) o (answered f) → P → Surely A sure → r ≡ seen (begin_with sure) (answered f) → Gives (λ (begin : Begin). held false begin.n w) (Sound A room w) o r
first_with sure f s p known e = with_known sure (answered f) (s.run p) known e

-- a day that was adjusted
pub found_sure : {A : ℕ → Answer ℕ} (day : ℕ) (found : Result ℕ Refusal) (d : ℕ) → answered found ≡ A day → found ≡ Ok d → Surely A (record { day = day; paid = d })
found_sure day found d s e = record { so = λ h. was_given found d _ s e }

pub ruleset firsts = (first_with)
