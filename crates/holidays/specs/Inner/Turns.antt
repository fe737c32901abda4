-- What the code keeps between two lines, and what one line promises.
-- Assumes nothing.
use Rattle.std.specs.Prelude.{ℕ, ◌+◌, ◌*◌, ◌≤◌, ◌<◌, ◌≡◌, Bool, Option, None, Some, Result, Ok, Err, List, length, get_or}
use Rattle.holidays.specs.declared.lines.Place.{Place}
use Rattle.refusal.specs.Answer.{ICAL}
use Rattle.holidays.specs.declared.turns.State.{State}
use Rattle.refusal.specs.declared.Refusal.{Refusal}
use Rattle.refusal.specs.Refusals.{number_of}
use Rattle.holidays.specs.declared.parameters.Value as found
use Rattle.holidays.specs.Words.{Bytes, pick}
use Rattle.holidays.specs.Nesting.{Parts, After, broken, open_are, after_begin, after_end}
use Rattle.holidays.specs.Events.{day, Draft, in_event}
use Rattle.holidays.specs.Content.{Content, content_of, name_of}
use Rattle.holidays.specs.Dated.{dated}
use Rattle.holidays.specs.Laws.Exactly.{Here, Turn, goes, stops, date_turn, end_turn, event_turn, turn_of}
use Rattle.holidays.specs.Inner.Along.{ahead, Inside}
use Rattle.holidays.specs.Inner.Digits.{IsSmall}
use Rattle.holidays.specs.Inner.Parameters.{said_at}
use Rattle.holidays.specs.Inner.Parts.{parts_of, NestIsOk}
use Rattle.holidays.specs.Inner.Events.{said_of, Counted}
use Rattle.holidays.specs.Inner.Days.{days_of}

-- ---- what a state stands for, with the days xs
abbrev pub draft_of : State → Draft
draft_of st = record { start = said_of st.start; stop = said_of st.stop }

abbrev pub here_of : Bytes → List ℕ → List ℕ → State → Here
here_of file stack xs st = record { parts = parts_of file stack st.depth; draft = draft_of st; dates = xs }

unfoldable pub turn_shows : Bytes → List ℕ → List ℕ → Result State Refusal → Turn
turn_shows file stack xs (Err r) = stops (number_of r)
turn_shows file stack xs (Ok st) = goes (here_of file stack xs st)

-- ---- open parts: each BEGIN took six bytes at least, so that the stack has a place for each
pub record Nested (file stack : List ℕ) (depth : ℕ) (event : Bool) (at : ℕ) : Type 0 where
  pub nest : NestIsOk event (parts_of file stack depth)
  pub places : (k : ℕ) → k < depth → get_or stack k 0 ≤ length file
  pub deep : depth * 6 ≤ at
  pub long : length stack ≡ 10923
  pub inside : at ≤ length file

-- ---- BEGIN: its value, where there is one, lies six bytes further for each part
unfoldable pub IsFar : ℕ → Option Place → Type 0
IsFar depth None = Unit {0}
IsFar depth (Some p) = depth * 6 + 6 ≤ p.at

unfoldable pub opened_turn : After → Here → Turn
opened_turn broken h = stops ICAL
opened_turn (open_are qs) h = goes (record { parts = qs; draft = h.draft; dates = h.dates })

pub record Begun (file stack : List ℕ) (v : found.Value) (st s : State) : Type 0 where
  pub nested : Nested file stack s.depth s.event s.place.at
  pub place : Some s.place ≡ v.place
  pub count : s.count ≡ st.count
  pub start : s.start ≡ st.start

unfoldable pub IsBegun : List ℕ → List ℕ → found.Value → State → Result State Refusal → Type 0
IsBegun file stack v st (Err r) = Unit {0}
IsBegun file stack v st (Ok s) = Begun file stack v st s

pub record Begins (file : Bytes) (v : found.Value) (st : State) (stack : List ℕ) (r : Result State Refusal) (stack' : List ℕ) : Type 0 where
  pub same : (xs : List ℕ) → turn_shows file stack' xs r ≡ opened_turn (after_begin (said_at file v.place) (parts_of file stack st.depth)) (here_of file stack xs st)
  pub kept : IsBegun file stack' v st r

-- ---- a line that leaves the open parts as they are
unfoldable pub turn_with : Parts → List ℕ → Result State Refusal → Turn
turn_with qs xs (Err r) = stops (number_of r)
turn_with qs xs (Ok st) = goes (record { parts = qs; draft = draft_of st; dates = xs })

-- the state but for the days that the event has said
pub record Stays (st s : State) : Type 0 where
  pub place : s.place ≡ st.place
  pub depth : s.depth ≡ st.depth
  pub event : s.event ≡ st.event
  pub count : s.count ≡ st.count
  pub few : IsSmall s.start

unfoldable pub StaysAs : State → Result State Refusal → Type 0
StaysAs st (Err r) = Unit {0}
StaysAs st (Ok s) = Stays st s

abbrev pub line_of : Bytes → State → Content
line_of file st = content_of (ahead file st.place.at st.place.line)

pub record StartTurns (file : Bytes) (st : State) (r : Result State Refusal) : Type 0 where
  pub same : (qs : Parts) (xs : List ℕ) → turn_with qs xs r ≡ date_turn (said_of st.start) (dated (line_of file st)) (λ d. record { parts = qs; draft = record { start = day d; stop = said_of st.stop }; dates = xs })
  pub kept : StaysAs st r

pub record StopTurns (file : Bytes) (st : State) (r : Result State Refusal) : Type 0 where
  pub same : (qs : Parts) (xs : List ℕ) → turn_with qs xs r ≡ date_turn (said_of st.stop) (dated (line_of file st)) (λ d. record { parts = qs; draft = record { start = said_of st.start; stop = day d }; dates = xs })
  pub kept : StaysAs st r

pub record EventTurns (file : Bytes) (st : State) (r : Result State Refusal) : Type 0 where
  pub same : (room line : ℕ) (qs : Parts) (xs : List ℕ) → turn_with qs xs r ≡ event_turn (name_of (line_of file st).name) room line (line_of file st) (draft_of st) qs xs
  pub kept : StaysAs st r

-- ---- END:VEVENT
pub record ClosedState (room : ℕ) (map : List ℕ) (st s : State) : Type 0 where
  pub place : s.place ≡ st.place
  pub depth : s.depth ≡ 1
  pub event : s.event ≡ st.event
  pub counted : Counted room s.count map
  pub few : IsSmall s.start

unfoldable pub IsClosedState : ℕ → List ℕ → State → Result State Refusal → Type 0
IsClosedState room map st (Err r) = Unit {0}
IsClosedState room map st (Ok s) = ClosedState room map st s

pub record CloseTurns (st : State) (room : ℕ) (map : List ℕ) (r : Result State Refusal) (map' : List ℕ) : Type 0 where
  pub same : (line : ℕ) (qs : Parts) → turn_with qs (days_of map') r ≡ end_turn room line (said_of st.start) (said_of st.stop) qs (days_of map)
  pub kept : IsClosedState room map' st r

-- ---- END
unfoldable pub ended_turn : ℕ → ℕ → Bool → After → Here → Turn
ended_turn room line inside broken h = stops ICAL
ended_turn room line inside (open_are qs) h =
    pick inside (end_turn room line h.draft.start h.draft.stop qs h.dates) (goes (record { parts = qs; draft = h.draft; dates = h.dates }))

pub record EndState (file stack : List ℕ) (room : ℕ) (map : List ℕ) (st s : State) : Type 0 where
  pub nested : Nested file stack s.depth s.event s.place.at
  pub place : s.place ≡ st.place
  pub counted : Counted room s.count map
  pub few : IsSmall s.start

unfoldable pub IsEndState : List ℕ → List ℕ → ℕ → List ℕ → State → Result State Refusal → Type 0
IsEndState file stack room map st (Err r) = Unit {0}
IsEndState file stack room map st (Ok s) = EndState file stack room map st s

pub record EndTurns (file : Bytes) (v : found.Value) (st : State) (stack : List ℕ) (room : ℕ) (map : List ℕ) (r : Result State Refusal) (map' : List ℕ) : Type 0 where
  pub same : (line : ℕ) → turn_shows file stack (days_of map') r ≡ ended_turn room line (in_event (parts_of file stack st.depth)) (after_end (said_at file v.place) (parts_of file stack st.depth)) (here_of file stack (days_of map) st)
  pub kept : IsEndState file stack room map' st r

-- ---- a line
pub record Keeps (file stack : List ℕ) (room : ℕ) (map : List ℕ) (st : State) : Type 0 where
  pub nested : Nested file stack st.depth st.event st.place.at
  pub counted : Counted room st.count map
  pub few : IsSmall st.start

pub record TurnState (file stack : List ℕ) (room : ℕ) (map : List ℕ) (st s : State) : Type 0 where
  pub inside : Inside file st.place.at st.place.line s.place.at s.place.line
  pub keeps : Keeps file stack room map s

unfoldable pub IsTurnState : List ℕ → List ℕ → ℕ → List ℕ → State → Result State Refusal → Type 0
IsTurnState file stack room map st (Err r) = Unit {0}
IsTurnState file stack room map st (Ok s) = TurnState file stack room map st s

pub record Turned (file : Bytes) (st : State) (stack : List ℕ) (room : ℕ) (map : List ℕ) (r : Result State Refusal) (stack' map' : List ℕ) : Type 0 where
  pub same : turn_shows file stack' (days_of map') r ≡ turn_of room (record { number = st.place.line; bytes = ahead file st.place.at st.place.line }) (here_of file stack (days_of map) st)
  pub kept : IsTurnState file stack' room map' st r
