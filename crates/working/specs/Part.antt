-- What stands in the working lists: a backward build fills them from the far end, any other from the near end.
-- Assumes nothing.
use Rattle.std.specs.Prelude.{ℕ, ◌-◌, ◌≤◌, ◌<◌, ◌≡◌, refl, Bool, true, false, ◌&&◌, List, reverse, eqb, ltb, length, get_or, take, drop, Result, Ok}
use Rattle.refusal.specs.declared.Refusal.{Refusal}
use Rattle.refusal.specs.Answer.{Answer, given, answered}
use Rattle.calendar.specs.Open.{closed_ok}
use Rattle.steps.specs.Generate.{Lists}
use Rattle.working.specs.Step.{Gives, Step, does, gives, step_stops, step_on}

-- the working lists
pub record Work : Type 0 where
  pub days : List ℕ
  pub marks : List ℕ

abbrev pub working : List ℕ → List ℕ → Work
working days marks = record { days = days; marks = marks }

-- the last n that were put, newest first
unfoldable pub last_put : Bool → ℕ → List ℕ → List ℕ
last_put true n l = drop (4096 - n) l
last_put false n l = reverse (take n l)

-- the list of n dates and their marks
unfoldable pub held : Bool → ℕ → Work → Lists
held back n w = record { dates = last_put back n w.days; marks = last_put back n w.marks }

-- the date that was put last
unfoldable pub last_day : Bool → ℕ → List ℕ → ℕ
last_day back n days = get_or (last_put back n days) 0 0

-- where the next date goes when n are there
unfoldable pub place_of : Bool → ℕ → ℕ
place_of true n = 4095 - n
place_of false n = n

-- lists of these lengths have their 4,096 places, and one of them is left when n dates are there
unfoldable pub has_place : ℕ → ℕ → ℕ → Bool
has_place n dates marks = ltb n 4096 && (eqb dates 4096 && eqb marks 4096)

-- the working lists have their 4,096 places, and n dates are no more than the room
pub record Part (room n : ℕ) (w : Work) : Type 0 where
  pub work_size : length w.days ≡ 4096
  pub marks_size : length w.marks ≡ 4096
  pub fits : n ≤ room
  pub most : room ≤ 4096

-- and there is at least one date
pub record Placed (room n : ℕ) (w : Work) : Type 0 where
  pub part : Part room n w
  pub some : 0 < n

-- the lists stand beside a list of closed dates that keeps its rule
pub record Fresh (closed : List ℕ) (room n : ℕ) (w : Work) : Type 0 where
  pub calendar : closed_ok closed ≡ true
  pub part : Part room n w

-- and there is at least one date
pub record Begun (closed : List ℕ) (room n : ℕ) (w : Work) : Type 0 where
  pub calendar : closed_ok closed ≡ true
  pub some : 0 < n
  pub part : Part room n w

-- what a step that puts a date answers: how many dates there are then
abbrev pub Filling : Bool → ℕ → Answer Lists → Result ℕ Refusal → Work → Type 0
Filling back room o r w = Gives (λ n. held back n w) (λ n. Placed room n w) o (answered r)

-- the promise of a step that takes lists of n dates on: under its premise it leaves what the definition makes of them
abbrev pub Fills : (Premise : ℕ → Work → Type 0) (back : Bool) (room : ℕ) (does : Lists → Answer Lists) (n : ℕ) (w : Work) (r : Result ℕ Refusal) (w' : Work) → Type 0
Fills Premise back room does n w r w' =
    Step (Premise n w) (λ m. held back m w') (λ m. Placed room m w') (does (held back n w)) (answered r)

-- ---- after such a step
pub filled_ready : {room n : ℕ} {w : Work} (back : Bool) → Placed room n w → Filling back room (given (held back n w)) (Ok n) w
filled_ready {n = n} back p = gives n refl p

pub placed_part : {room n : ℕ} {w : Work} → Placed room n w → Part room n w
placed_part p = p.part

pub begun : {closed : List ℕ} {room n : ℕ} {w : Work} → closed_ok closed ≡ true → Placed room n w → Begun closed room n w
begun ok p = record { calendar = ok; some = p.some; part = p.part }

pub begun_placed : {closed : List ℕ} {room n : ℕ} {w : Work} → Begun closed room n w → Placed room n w
begun_placed b = record { part = b.part; some = b.some }

pub ruleset fills = (does, step_stops, step_on, placed_part, begun, begun_placed)
