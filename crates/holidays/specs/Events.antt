-- RFC 5545, section 3.6.1, and document 02, L10: start and end of each VEVENT with the line of its END, up to the first refusal.
-- Assumes nothing.
use Rattle.std.specs.Prelude.{ℕ, ◌+◌, ◌-◌, Bool, true, false, [], ◌∷◌, leb, ltb}
use Rattle.refusal.specs.Answer.{BOOK, ICAL, ICALKIND}
use Rattle.holidays.specs.Words.{spells, Course, ended, refused_at, next}
use Rattle.holidays.specs.Content.{Content, Name, begin, end, dtstart, dtend, recurring, other}
use Rattle.holidays.specs.Nesting.{Parts, Placed}
use Rattle.holidays.specs.Dated.{Dated, all_day, timed, bad, CYCLE, dated}

-- the days from the first up to, not including, the end, as day numbers; and the line of END:VEVENT
pub record Event : Type 0 where
  pub first : ℕ
  pub past : ℕ
  pub line : ℕ

-- ---- what a VEVENT has said so far: days counted as in Dated
pub data Said : Type 0 where
  nothing : Said
  day : ℕ → Said

pub record Draft : Type 0 where
  pub start : Said
  pub stop : Said

abbrev pub blank : Draft
blank = record { start = nothing; stop = nothing }

-- ---- directly in a VEVENT: the innermost open part is one
unfoldable pub in_event : Parts → Bool
in_event [] = false
in_event (p ∷ ps) = spells p "VEVENT"

-- ---- DTSTART and DTEND: repeated, then bad, then timed
unfoldable pub on_dated : ℕ → Dated → (ℕ → Course Event) → Course Event
on_dated line (all_day d) on = on d
on_dated line timed on = refused_at ICALKIND line
on_dated line bad on = refused_at ICAL line

unfoldable pub unless_said : Said → ℕ → Dated → (ℕ → Course Event) → Course Event
unless_said nothing line t on = on_dated line t on
unless_said (day d) line t on = refused_at ICAL line

-- ---- at END:VEVENT: an end after the start, then 1800 to 2399 (657,072 to 876,216)
unfoldable pub need : ℕ → ℕ → Bool → Course Event → Course Event
need number line true c = c
need number line false c = refused_at number line

unfoldable pub closed : ℕ → ℕ → ℕ → Course Event → Course Event
closed line from to rest =
    need ICAL line (ltb from to)
    (need BOOK line (leb (CYCLE + 657072) from)
    (need BOOK line (leb to (CYCLE + 876217))
    (next (record { first = from - CYCLE; past = to - CYCLE; line = line }) rest)))

-- DTSTART is there, and without DTEND it is one day
unfoldable pub closed_by : ℕ → Said → Said → Course Event → Course Event
closed_by line nothing stop rest = refused_at ICAL line
closed_by line (day from) nothing rest = closed line from (from + 1) rest
closed_by line (day from) (day to) rest = closed line from to rest

-- ---- a line directly in a VEVENT
unfoldable pub by_name : Name → ℕ → Content → Draft → (Draft → Course Event) → Course Event
by_name begin line c w on = on w
by_name end line c w on = closed_by line w.start w.stop (on blank)
by_name dtstart line c w on = unless_said w.start line (dated c) (λ d. on (record { start = day d; stop = w.stop }))
by_name dtend line c w on = unless_said w.stop line (dated c) (λ d. on (record { start = w.start; stop = day d }))
by_name recurring line c w on = refused_at ICALKIND line
by_name other line c w on = on w

-- all other lines are passed over
unfoldable pub on_place : Bool → Placed → Draft → (Draft → Course Event) → Course Event
on_place true p w on = by_name p.name p.number p.content w on
on_place false p w on = on w

unfoldable pub events_from : Course Placed → Draft → Course Event
events_from ended w = ended
events_from (refused_at number line) w = refused_at number line
events_from (next p ps) w = on_place (in_event p.parts) p w (events_from ps)

unfoldable pub events : Course Placed → Course Event
events ps = events_from ps blank
