-- What the code's walk over the lines promises.
-- Assumes nothing.
use Rattle.std.specs.Prelude.{ℕ, ◌+◌, ◌≤◌, ◌≡◌, Bool, not, ◌&&◌, Result, Ok, Err, List, eqb, length, drop, get_or}
use Rattle.holidays.specs.declared.turns.State.{State}
use Rattle.refusal.specs.declared.Refusal.{Refusal}
use Rattle.refusal.specs.Refusals.{number_of}
use Rattle.refusal.specs.Answer.{ICAL}
use Rattle.refusal.specs.declared.Refusal.TheVariants.{Ical}
use Rattle.holidays.specs.declared.Fault.{Fault}
use Rattle.holidays.specs.Words.{Bytes, pick}
use Rattle.holidays.specs.Lines.{Line, without_mark}
use Rattle.holidays.specs.Nesting.{last_of, all_blank}
use Rattle.holidays.specs.Import.{Import, days, refused_at_lem, import_of}
use Rattle.holidays.specs.Laws.Walk.{on_cut, walk}
use Rattle.holidays.specs.Laws.Exactly.{Here, turn_of, answers}
use Rattle.holidays.specs.Inner.Along.{cut_at, ahead, Before}
use Rattle.holidays.specs.Inner.Days.{days_of}
use Rattle.holidays.specs.Inner.Events.{Counted}
use Rattle.holidays.specs.Inner.Turns.{here_of, turn_shows, Keeps}

-- ---- the next line
pub record Behind (file : Bytes) (at line i n : ℕ) : Type 0 where
  pub rest : (cut_at file at line).rest ≡ drop i file
  pub number : (cut_at file at line).number ≡ n
  pub before : Before file i n
  pub later : at ≤ i

pub record Advances (file : Bytes) (s r : State) : Type 0 where
  pub behind : Behind file s.place.at s.place.line r.place.at r.place.line
  pub depth : r.depth ≡ s.depth
  pub event : r.event ≡ s.event
  pub start : r.start ≡ s.start
  pub stop : r.stop ≡ s.stop
  pub count : r.count ≡ s.count

pub record LineState (file stack : List ℕ) (room : ℕ) (map : List ℕ) (st s : State) : Type 0 where
  pub behind : Behind file st.place.at st.place.line s.place.at s.place.line
  pub keeps : Keeps file stack room map s

unfoldable pub IsLineState : List ℕ → List ℕ → ℕ → List ℕ → State → Result State Refusal → Type 0
IsLineState file stack room map st (Err r) = Unit {0}
IsLineState file stack room map st (Ok s) = LineState file stack room map st s

pub record Lined (file : Bytes) (st : State) (stack : List ℕ) (room : ℕ) (map : List ℕ) (r : Result State Refusal) (stack' map' : List ℕ) : Type 0 where
  pub same : turn_shows file stack' (days_of map') r ≡ turn_of room (record { number = st.place.line; bytes = ahead file st.place.at st.place.line }) (here_of file stack (days_of map) st)
  pub kept : IsLineState file stack' room map' st r

-- ---- all lines: what is left to answer from here, where `seen` says whether a line was not blank so far
unfoldable pub whole : ℕ → Bool → List Line → Here → Import
whole room seen ls h = pick (not seen && all_blank ls) (refused_at_lem ICAL (last_of ls)) (answers room (last_of ls) ls h)

-- the fuel is for the lines behind this one
pub record Walking (file : Bytes) (room : ℕ) (stack map : List ℕ) (st : State) (seen : Bool) : Type 0 where
  pub fuel : ℕ
  pub enough : length file ≤ fuel + st.place.at
  pub same : import_of file room ≡ whole room seen (on_cut st.place.line (cut_at file st.place.at st.place.line) (walk fuel)) (here_of file stack (days_of map) st)
  pub before : Before file st.place.at st.place.line
  pub keeps : Keeps file stack room map st

unfoldable pub ended_shows : List ℕ → Result ℕ Fault → Import
ended_shows xs (Err f) = refused_at_lem (number_of f.refusal) f.line
ended_shows xs (Ok c) = days xs

unfoldable pub finished : ℕ → Bool → ℕ → ℕ → Result ℕ Fault
finished depth seen line count = pick (eqb depth 0 && seen) (Ok count) (Err (record { refusal = Ical; line = line }))

pub record Finishes (depth : ℕ) (seen : Bool) (line count : ℕ) (r : Result ℕ Fault) : Type 0 where
  pub same : r ≡ finished depth seen line count

unfoldable pub IsEndedCount : ℕ → List ℕ → Result ℕ Fault → Type 0
IsEndedCount room map (Err f) = Unit {0}
IsEndedCount room map (Ok c) = Counted room c map

pub record Walks (file : Bytes) (room : ℕ) (r : Result ℕ Fault) (map : List ℕ) : Type 0 where
  pub same : import_of file room ≡ ended_shows (days_of map) r
  pub counted : IsEndedCount room map r

-- ---- the start
pub record Starts (file : Bytes) (r : ℕ) : Type 0 where
  pub same : without_mark file ≡ drop r file
  pub inside : r ≤ length file
