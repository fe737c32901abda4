-- RFC 5545, sections 3.4 and 3.6: each line with the parts that are open around it, up to the first line that breaks the nesting.
-- Assumes nothing.
use Rattle.std.specs.Prelude.{ℕ, Bool, true, false, not, ◌&&◌, ◌||◌, List, [], ◌∷◌}
use Rattle.refusal.specs.Answer.{ICAL}
use Rattle.holidays.specs.Words.{Bytes, pick, uppers, equal, spells, Course, ended, refused_at, next}
use Rattle.holidays.specs.Lines.{Line}
use Rattle.holidays.specs.Content.{Value, none, value, Content, content_of, Name, begin, end, dtstart, dtend, recurring, other, name_of}

-- the names of the open parts in capitals, the innermost first
abbrev pub Parts : Type 0
Parts = List Bytes

-- where a part may begin: VCALENDAR outside every part, and nothing else there; VEVENT directly in a VCALENDAR; all others anywhere inside
unfoldable pub may_begin : Bytes → Parts → Bool
may_begin name [] = spells name "VCALENDAR"
may_begin name (p ∷ ps) = not (spells name "VCALENDAR") && (not (spells name "VEVENT") || spells p "VCALENDAR")

-- the innermost part ends
unfoldable pub may_end : Bytes → Parts → Bool
may_end name [] = false
may_end name (p ∷ ps) = equal (uppers name) p

unfoldable pub within : Parts → Parts
within [] = []
within (p ∷ ps) = ps

-- the parts that are open behind a line, or that it breaks the nesting
pub data After : Type 0 where
  broken : After
  open_are : Parts → After

unfoldable pub after_begin : Value → Parts → After
after_begin none ps = broken
after_begin (value name) ps = pick (may_begin name ps) (open_are (uppers name ∷ ps)) broken

unfoldable pub after_end : Value → Parts → After
after_end none ps = broken
after_end (value name) ps = pick (may_end name ps) (open_are (within ps)) broken

-- outside every part no other line may stand
unfoldable pub after_other : Parts → After
after_other [] = broken
after_other (p ∷ ps) = open_are (p ∷ ps)

unfoldable pub after : Name → Value → Parts → After
after begin v ps = after_begin v ps
after end v ps = after_end v ps
after dtstart v ps = after_other ps
after dtend v ps = after_other ps
after recurring v ps = after_other ps
after other v ps = after_other ps

-- ---- a line, the parts open before it, and what it says
pub record Placed : Type 0 where
  pub number : ℕ
  pub parts : Parts
  pub name : Name
  pub content : Content

-- the line where the last unfolded line starts
unfoldable pub last_of : List Line → ℕ
last_of [] = 0
last_of (l ∷ []) = l.number
last_of (l ∷ m ∷ ls) = last_of (m ∷ ls)

unfoldable pub is_blank : Bytes → Bool
is_blank [] = true
is_blank (b ∷ s) = false

unfoldable pub all_blank : List Line → Bool
all_blank [] = true
all_blank (l ∷ ls) = is_blank l.bytes && all_blank ls

-- at the end nothing may be open
unfoldable pub at_end : ℕ → Parts → Course Placed
at_end last [] = ended
at_end last (p ∷ ps) = refused_at ICAL last

unfoldable pub on_after : Placed → After → (Parts → Course Placed) → Course Placed
on_after p broken on = refused_at ICAL p.number
on_after p (open_are ps) on = next p (on ps)

unfoldable pub place : Line → Parts → Content → Placed
place l ps c = record { number = l.number; parts = ps; name = name_of c.name; content = c }

unfoldable pub on_placed : Placed → (Parts → Course Placed) → Course Placed
on_placed p on = on_after p (after p.name p.content.said p.parts) on

-- blank lines are passed over
unfoldable pub on_line : Bool → Line → Parts → (Parts → Course Placed) → Course Placed
on_line true l ps on = on ps
on_line false l ps on = on_placed (place l ps (content_of l.bytes)) on

unfoldable pub nested_from : ℕ → List Line → Parts → Course Placed
nested_from last [] ps = at_end last ps
nested_from last (l ∷ ls) ps = on_line (is_blank l.bytes) l ps (nested_from last ls)

-- blank lines alone are no calendar
unfoldable pub nested : List Line → Course Placed
nested ls = pick (all_blank ls) (refused_at ICAL (last_of ls)) (nested_from (last_of ls) ls [])
