-- What the functions of the loop over the candidates answer and keep.
-- Assumes nothing.
use Rattle.std.specs.Prelude.{ℕ, ◌≤◌, ◌<◌, length, ◌≡◌, Bool, List, Result}
use Rattle.refusal.specs.declared.Refusal.{Refusal}
use Rattle.refusal.specs.Refusals.{number_of}
use Rattle.refusal.specs.Answer.{Answer, given, refused, answered}
use Rattle.calendar.specs.declared.Convention.{Convention}
use Rattle.calendar.specs.Adjust.{adjusted}
use Rattle.calendar.specs.Inner.Near.{OneMonth}
use Rattle.steps.specs.Candidates as steps
use Rattle.steps.specs.Inner.Sure.{Surely}
use Rattle.steps.specs.Generate.{Lists, Walk, newest}
use Rattle.working.specs.declared.candidates.Turn.{Turn}
use Rattle.working.specs.declared.candidates.Turn.TheVariants.{Past, Skip, Keep, Stop}
use Rattle.working.specs.declared.walks.Walked.{Walked}
use Rattle.working.specs.declared.Begin.{Begin}
use Rattle.working.specs.declared.Tip.{Tip}
use Rattle.working.specs.Step.{Gives, Step}
use Rattle.working.specs.declared.Course.{Course}
use Rattle.working.specs.declared.candidates.Known.{Known}
use Rattle.working.specs.Part.{Work, Begun, held, last_day}
use Rattle.working.specs.Paying.{Paid}

-- what is known of a day's adjusted date: `front`, or nothing where that is 0
pub record Front (mask : ℕ) (closed : List ℕ) (convention : Convention) (front day : ℕ) : Type 0 where
  pub known : (front ≡ 0 → ⊥) → adjusted mask closed convention day ≡ given front

-- what the loop knows is so
pub record Knows (mask : ℕ) (closed : List ℕ) (convention : Convention) (known : Known) : Type 0 where
  pub front : Front mask closed convention known.front known.newest
  pub month : OneMonth known.near.from known.near.to

-- ---- a turn
unfoldable pub told : Turn → Answer steps.Turn
told Past = given steps.past
told (Skip next) = given steps.skip
told (Keep next) = given (steps.keep next.newest)
told (Stop refusal) = refused (number_of refusal)

-- what is known then; the newest date is the same where the candidate was skipped, and its adjusted date is known where it was kept
unfoldable pub Learnt : ℕ → List ℕ → Convention → ℕ → Turn → Type 0
Learnt mask closed convention newest Past = Unit {0}
Learnt mask closed convention newest (Skip next) = Knows mask closed convention next × (next.newest ≡ newest)
Learnt mask closed convention newest (Keep next) = Knows mask closed convention next × (adjusted mask closed convention next.newest ≡ given next.front)
Learnt mask closed convention newest (Stop refusal) = Unit {0}

pub record Compared (mask : ℕ) (closed : List ℕ) (convention : Convention) (newest : ℕ) (o : Answer steps.Turn) (r : Turn) : Type 0 where
  pub says : told r ≡ o
  pub learnt : Learnt mask closed convention newest r

-- a turn of the candidates of a course
abbrev pub turn_on : Course → ℕ → List ℕ → Convention → ℕ → ℕ → Answer steps.Turn
turn_on course mask closed convention =
    steps.turn_of mask closed convention course.back course.pace course.seed course.exit

-- the lists stand, and the front is known of their newest date
pub record Ahead (mask : ℕ) (closed : List ℕ) (convention : Convention) (back : Bool) (room : ℕ) (w : Work) (tip : Tip) : Type 0 where
  pub begun : Begun closed room tip.n w
  pub front : Front mask closed convention tip.front (newest (held back tip.n w))

-- ---- before the walk: some dates, of one of which the adjusted date may be known, and what is then known of the newest
pub record Begins (A : ℕ → Answer ℕ) (closed : List ℕ) (room : ℕ) (begin : Begin) (w : Work) (paid : List ℕ) : Type 0 where
  pub begun : Begun closed room begin.n w
  pub paid_size : length paid ≡ 4096
  pub sure : Surely A begin.sure

-- the dates and the paid dates have their 4,096 places
pub record Sized (n : ℕ) (days paid : List ℕ) : Type 0 where
  pub most : n ≤ 4096
  pub size : length days ≡ 4096
  pub paid_size : length paid ≡ 4096

pub record Starts (A : ℕ → Answer ℕ) (begin : Begin) (days paid : List ℕ) : Type 0 where
  pub some : 0 < begin.n
  pub sized : Sized begin.n days paid
  pub sure : Surely A begin.sure

pub record Started (mask : ℕ) (closed : List ℕ) (convention : Convention) (back : Bool) (n : ℕ) (days paid : List ℕ) (tip : Tip) : Type 0 where
  pub front : Front mask closed convention tip.front (last_day back n days)
  pub pays : Paid (adjusted mask closed convention) back tip.start n days paid

-- ---- the walk
-- the lists stand, the front is known, and the dates from the start on are paid
pub record Looped (mask : ℕ) (closed : List ℕ) (convention : Convention) (back : Bool) (room : ℕ) (w : Work) (paid : List ℕ) (tip : Tip) : Type 0 where
  pub ahead : Ahead mask closed convention back room w tip
  pub pays : Paid (adjusted mask closed convention) back tip.start tip.n w.days paid

abbrev pub Walking : (mask : ℕ) (closed : List ℕ) (convention : Convention) (back : Bool) (room : ℕ) (o : Answer Walk) (r : Result Walked Refusal) (w : Work) (paid : List ℕ) → Type 0
Walking mask closed convention back room o r w paid =
    Gives (λ t. record { lists = held back t.tip.n w; tries = t.tries }) (λ t. Looped mask closed convention back room w paid t.tip) o (answered r)

-- the promise of the loop on lists of some dates
abbrev pub Walks : (mask : ℕ) (closed : List ℕ) (convention : Convention) (back : Bool) (room : ℕ) (does : Lists → Answer Walk) (begin : Begin) (w : Work) (paid : List ℕ) (r : Result Walked Refusal) (w' : Work) (paid' : List ℕ) → Type 0
Walks mask closed convention back room does begin w paid r w' paid' =
    Step (Begins (adjusted mask closed convention) closed room begin w paid) (λ t. record { lists = held back t.tip.n w'; tries = t.tries }) (λ t. Looped mask closed convention back room w' paid' t.tip) (does (held back begin.n w)) (answered r)
