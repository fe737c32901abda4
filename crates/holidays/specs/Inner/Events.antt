-- What the code's ways through a VEVENT promise: a date said, and the days at its end.
-- Assumes nothing.
use Rattle.std.specs.Prelude.{ℕ, ◌+◌, ◌≤◌, min, ◌≡◌, Option, None, Some, Result, Ok, Err, List, length}
use Rattle.holidays.specs.declared.parameters.Value as found
use Rattle.refusal.specs.declared.Refusal.{Refusal}
use Rattle.refusal.specs.Answer.{Answer, given, refused, answered}
use Rattle.holidays.specs.Words.{Bytes}
use Rattle.holidays.specs.Nesting.{Parts}
use Rattle.holidays.specs.Dated.{by_value}
use Rattle.holidays.specs.Events.{Said, nothing, day, blank}
use Rattle.holidays.specs.Laws.Exactly.{Here, Turn, goes, stops, date_turn, end_turn}
use Rattle.holidays.specs.Inner.Digits.{kind_is, IsSmallDay}
use Rattle.holidays.specs.Inner.Parameters.{said_at}
use Rattle.holidays.specs.Inner.Days.{WORDS, days_of}

unfoldable pub said_of : Option ℕ → Said
said_of None = nothing
said_of (Some n) = day n

unfoldable pub past_of : ℕ → Option ℕ → ℕ
past_of start None = start + 1
past_of start (Some stop) = stop

pub record Limits (room r : ℕ) : Type 0 where
  pub same : r ≡ min room 4096

-- ---- a date
unfoldable pub noted_turn : Answer ℕ → (ℕ → Here) → Turn
noted_turn (refused n) on = stops n
noted_turn (given d) on = goes (on d)

pub record Notes (file : Bytes) (said : Option ℕ) (v : found.Value) (r : Result ℕ Refusal) : Type 0 where
  pub same : (on : ℕ → Here) → date_turn (said_of said) (by_value (kind_is v.kind) (said_at file v.place)) on ≡ noted_turn (answered r) on
  pub few : IsSmallDay r

-- ---- the end
unfoldable pub closed_turn : Answer ℕ → Parts → List ℕ → Turn
closed_turn (refused n) qs map = stops n
closed_turn (given c) qs map = goes (record { parts = qs; draft = blank; dates = days_of map })

pub record Counted (room c : ℕ) (map : List ℕ) : Type 0 where
  pub count : c ≡ length (days_of map)
  pub room_for : c ≤ min room 4096
  pub long : length map ≡ WORDS

unfoldable pub IsClosedCount : ℕ → Result ℕ Refusal → List ℕ → Type 0
IsClosedCount room (Err r) map = Unit {0}
IsClosedCount room (Ok c) map = Counted room c map

pub record Closes (start stop : Option ℕ) (room : ℕ) (map : List ℕ) (r : Result ℕ Refusal) (map' : List ℕ) : Type 0 where
  pub same : (line : ℕ) (qs : Parts) → end_turn room line (said_of start) (said_of stop) qs (days_of map) ≡ closed_turn (answered r) qs map'
  pub counted : IsClosedCount room r map'
