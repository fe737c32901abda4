-- Document 02, L10: a closed list as a calendar file (RFC 5545): an event for each run of days that follow one another.
-- Assumes nothing.
use Rattle.std.specs.Prelude.{ℕ, ◌+◌, ◌/◌, ◌%◌, Bool, true, false, List, [], ◌∷◌, ◌++◌, eqb, leb, length}
use Rattle.refusal.specs.Answer.{Answer, given, need, CALENDAR, ROOM, ICAL}
use Rattle.date.specs.Civil.{fields_of}
use Rattle.calendar.specs.Open.{closed_ok}
use Rattle.holidays.specs.Words.{Bytes, LF, CR, ascii}

-- ---- runs: the days from the first up to, not including, the end
pub record Run : Type 0 where
  pub first : ℕ
  pub past : ℕ

-- a day behind a run goes on with it, or starts another; `on from` are the runs of the days from there on
unfoldable pub joined : Bool → ℕ → ℕ → ℕ → (ℕ → List Run) → List Run
joined true first past d on = on first
joined false first past d on = record { first = first; past = past } ∷ on d

-- the runs of the days behind one that goes up to `past`, and that one
unfoldable pub runs_from : ℕ → ℕ → List ℕ → List Run
runs_from first past [] = record { first = first; past = past } ∷ []
runs_from first past (d ∷ ds) = joined (eqb d past) first past d (λ from. runs_from from (d + 1) ds)

unfoldable pub runs_of : List ℕ → List Run
runs_of [] = []
runs_of (d ∷ ds) = runs_from d (d + 1) ds

-- ---- a day in eight digits: four of the year, two of the month, two of the day
abbrev pub digit : ℕ → ℕ
digit d = 48 + d

abbrev pub two_digits : ℕ → Bytes
two_digits n = digit (n / 10 % 10) ∷ digit (n % 10) ∷ []

unfoldable pub date_text : ℕ → Bytes
date_text n = two_digits ((fields_of n).year / 100) ++ two_digits (fields_of n).year ++ two_digits (fields_of n).month ++ two_digits (fields_of n).day

-- ---- lines: VERSION, PRODID, UID and DTSTAMP are there because the RFC wants them; the stamp is no one's time, so that a list has one file
unfoldable pub before : List Bytes
before = ascii "BEGIN:VCALENDAR" ∷ ascii "VERSION:2.0" ∷ ascii "PRODID:-//Heronspan//EN" ∷ []

unfoldable pub behind : List Bytes
behind = ascii "END:VCALENDAR" ∷ []

unfoldable pub event_lines : Run → List Bytes
event_lines r =
    ascii "BEGIN:VEVENT" ∷
    (ascii "UID:" ++ (date_text r.first ++ ascii "@heronspan")) ∷
    ascii "DTSTAMP:19700101T000000Z" ∷
    (ascii "DTSTART;VALUE=DATE:" ++ date_text r.first) ∷
    (ascii "DTEND;VALUE=DATE:" ++ date_text r.past) ∷
    ascii "END:VEVENT" ∷
    []

unfoldable pub all_events : List Run → List Bytes
all_events [] = []
all_events (r ∷ rs) = event_lines r ++ all_events rs

-- each line ends by CR LF
unfoldable pub written : List Bytes → Bytes
written [] = []
written (l ∷ ls) = l ++ (CR ∷ LF ∷ written ls)

unfoldable pub file_of : List ℕ → Bytes
file_of list = written (before ++ (all_events (runs_of list) ++ behind))

-- ---- the whole: a list that keeps the calendar's rule, a file that the import takes, and as many places lent as it has bytes
unfoldable pub export_of : List ℕ → ℕ → Answer Bytes
export_of list room =
    need CALENDAR (closed_ok list)
    (need ICAL (leb (length (file_of list)) 65536)
    (need ROOM (leb (length (file_of list)) room)
    (given (file_of list))))
