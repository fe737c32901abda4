-- Refused exactly: each line goes on to a new state or stops with a number, and a file is refused at the first line that stops, or at its end with a part left open.
-- Assumes nothing.
use Rattle.std.specs.Prelude.{ℕ, ◌+◌, ◌-◌, ◌≡◌, Bool, List, [], ◌∷◌, leb, ltb, length}
use Rattle.std.proofs.Math.Path.{refl, ap}
use Rattle.std.proofs.Common.{sym, ◌∙◌, arith}
use Rattle.std.proofs.Math.Bool.{true, false}
use Rattle.refusal.specs.Answer.{BOOK, ICAL, ICALKIND}
use Rattle.holidays.specs.Words.{Bytes, next}
use Rattle.holidays.specs.Lines.{Line, lines_of}
use Rattle.holidays.specs.Content.{Content, content_of, Name, begin, end, dtstart, dtend, recurring, other, name_of}
use Rattle.holidays.specs.Nesting.{Parts, After, broken, open_are, after, Placed, last_of, is_blank, all_blank, at_end, on_after, place, on_placed, on_line, nested_from}
use Rattle.holidays.specs.Dated.{Dated, all_day, timed, bad, CYCLE, dated}
use Rattle.holidays.specs.Events.{Event, Said, nothing, day, Draft, blank, in_event, on_dated, unless_said, need, closed, closed_by, by_name, on_place, events_from}
use Rattle.holidays.specs.Import.{Import, days, refused_at_lem, with_event, full, fits, on_room, on_days, gathered, size_ok, import_of}
use Rattle.holidays.specs.Laws.Turns.{from_here, at_start}

-- ---- between two lines: the open parts, what the event has said, the days
pub record Here : Type 0 where
  pub parts : Parts
  pub draft : Draft
  pub dates : List ℕ

pub data Turn : Type 0 where
  goes : Here → Turn
  stops : ℕ → Turn

-- ---- one line, as a table: the first test that fails gives the number
unfoldable pub check : Bool → ℕ → Turn → Turn
check true number t = t
check false number t = stops number

-- DTSTART and DTEND: repeated, bad, timed
unfoldable pub date_turn : Said → Dated → (ℕ → Here) → Turn
date_turn (day d) t on = stops ICAL
date_turn nothing bad on = stops ICAL
date_turn nothing timed on = stops ICALKIND
date_turn nothing (all_day d) on = goes (on d)

-- END:VEVENT: an end after its start, 1800 to 2399, room
abbrev pub event_of : ℕ → ℕ → ℕ → Event
event_of line from to = record { first = from - CYCLE; past = to - CYCLE; line = line }

unfoldable pub close_turn : ℕ → ℕ → ℕ → ℕ → Parts → List ℕ → Turn
close_turn room line from to qs xs =
    check (ltb from to) ICAL
    (check (leb (CYCLE + 657072) from) BOOK
    (check (leb to (CYCLE + 876217)) BOOK
    (check (fits room (with_event (event_of line from to) xs)) (full room)
    (goes (record { parts = qs; draft = blank; dates = with_event (event_of line from to) xs })))))

unfoldable pub end_turn : ℕ → ℕ → Said → Said → Parts → List ℕ → Turn
end_turn room line nothing stop qs xs = stops ICAL
end_turn room line (day from) nothing qs xs = close_turn room line from (from + 1) qs xs
end_turn room line (day from) (day to) qs xs = close_turn room line from to qs xs

-- directly in a VEVENT, with the parts open behind the line
unfoldable pub event_turn : Name → ℕ → ℕ → Content → Draft → Parts → List ℕ → Turn
event_turn begin room line c w qs xs = goes (record { parts = qs; draft = w; dates = xs })
event_turn end room line c w qs xs = end_turn room line w.start w.stop qs xs
event_turn dtstart room line c w qs xs =
    date_turn w.start (dated c) (λ d. record { parts = qs; draft = record { start = day d; stop = w.stop }; dates = xs })
event_turn dtend room line c w qs xs =
    date_turn w.stop (dated c) (λ d. record { parts = qs; draft = record { start = w.start; stop = day d }; dates = xs })
event_turn recurring room line c w qs xs = stops ICALKIND
event_turn other room line c w qs xs = goes (record { parts = qs; draft = w; dates = xs })

unfoldable pub inside_turn : Bool → Name → ℕ → ℕ → Content → Draft → Parts → List ℕ → Turn
inside_turn true n room line c w qs xs = event_turn n room line c w qs xs
inside_turn false n room line c w qs xs = goes (record { parts = qs; draft = w; dates = xs })

-- the nesting first
unfoldable pub nest_turn : After → Bool → Name → ℕ → ℕ → Content → Draft → List ℕ → Turn
nest_turn broken inside n room line c w xs = stops ICAL
nest_turn (open_are qs) inside n room line c w xs = inside_turn inside n room line c w qs xs

unfoldable pub line_turn : ℕ → ℕ → Content → Name → Here → Turn
line_turn room line c n h = nest_turn (after n c.said h.parts) (in_event h.parts) n room line c h.draft h.dates

unfoldable pub blank_turn_of : Bool → ℕ → Line → Here → Turn
blank_turn_of true room l h = goes h
blank_turn_of false room l h = line_turn room l.number (content_of l.bytes) (name_of (content_of l.bytes).name) h

unfoldable pub turn_of : ℕ → Line → Here → Turn
turn_of room l h = blank_turn_of (is_blank l.bytes) room l h

-- ---- the import is its turns
unfoldable pub on_turn : Turn → ℕ → (Here → Import) → Import
on_turn (goes h) line on = on h
on_turn (stops number) line on = refused_at_lem number line

unfoldable pub answers : ℕ → ℕ → List Line → Here → Import
answers room last ls h = from_here room last ls h.parts h.draft h.dates

module _ (room last line : ℕ) (ls : List Line) where
  close_turned : (from to : ℕ) (qs : Parts) (xs : List ℕ) → gathered room (closed line from to (events_from (nested_from last ls qs) blank)) xs ≡ on_turn (close_turn room line from to qs xs) line (answers room last ls)
  unfolding closed need close_turn check on_turn answers from_here gathered on_days on_room
  close_turned from to qs xs =
      go (ltb from to) (leb (CYCLE + 657072) from) (leb to (CYCLE + 876217)) (fits room (with_event (event_of line from to) xs))
    where
      room_turned : (d : Bool) → on_room d room line (with_event (event_of line from to) xs) (gathered room (events_from (nested_from last ls qs) blank)) ≡ on_turn (check d (full room) (goes (record { parts = qs; draft = blank; dates = with_event (event_of line from to) xs }))) line (answers room last ls)
      room_turned true = refl
      room_turned false = refl

      go : (a b c d : Bool) → gathered room (need ICAL line a (need BOOK line b (need BOOK line c (next (event_of line from to) (events_from (nested_from last ls qs) blank))))) xs ≡ on_turn (check a ICAL (check b BOOK (check c BOOK (check (fits room (with_event (event_of line from to) xs)) (full room) (goes (record { parts = qs; draft = blank; dates = with_event (event_of line from to) xs })))))) line (answers room last ls)
      go false b c d = refl
      go true false c d = refl
      go true true false d = refl
      go true true true d = room_turned (fits room (with_event (event_of line from to) xs))

  end_turned : (start stop : Said) (qs : Parts) (xs : List ℕ) → gathered room (closed_by line start stop (events_from (nested_from last ls qs) blank)) xs ≡ on_turn (end_turn room line start stop qs xs) line (answers room last ls)
  unfolding closed_by end_turn on_turn gathered
  end_turned nothing stop qs xs = refl
  end_turned (day from) nothing qs xs = close_turned from (from + 1) qs xs
  end_turned (day from) (day to) qs xs = close_turned from to qs xs

  date_turned : (s : Said) (t : Dated) (qs : Parts) (xs : List ℕ) (v : ℕ → Draft) → gathered room (unless_said s line t (λ d. events_from (nested_from last ls qs) (v d))) xs ≡ on_turn (date_turn s t (λ d. record { parts = qs; draft = v d; dates = xs })) line (answers room last ls)
  unfolding unless_said on_dated date_turn on_turn answers from_here gathered
  date_turned nothing (all_day d) qs xs v = refl
  date_turned nothing timed qs xs v = refl
  date_turned nothing bad qs xs v = refl
  date_turned (day d) t qs xs v = refl

  event_turned : (n : Name) (c : Content) (w : Draft) (qs : Parts) (xs : List ℕ) → gathered room (by_name n line c w (events_from (nested_from last ls qs))) xs ≡ on_turn (event_turn n room line c w qs xs) line (answers room last ls)
  unfolding by_name event_turn on_turn answers from_here gathered
  event_turned begin c w qs xs = refl
  event_turned end c w qs xs = end_turned w.start w.stop qs xs
  event_turned dtstart c w qs xs = date_turned w.start (dated c) qs xs (λ d. record { start = day d; stop = w.stop })
  event_turned dtend c w qs xs = date_turned w.stop (dated c) qs xs (λ d. record { start = w.start; stop = day d })
  event_turned recurring c w qs xs = refl
  event_turned other c w qs xs = refl

  inside_turned : (b : Bool) (p : Placed) (w : Draft) (qs : Parts) (xs : List ℕ) → p.number ≡ line → gathered room (on_place b p w (events_from (nested_from last ls qs))) xs ≡ on_turn (inside_turn b p.name room line p.content w qs xs) line (answers room last ls)
  unfolding on_place inside_turn on_turn answers from_here
  inside_turned true p w qs xs e = rw e (event_turned p.name p.content w qs xs)
  inside_turned false p w qs xs e = refl

  nest_turned : (a : After) (p : Placed) (w : Draft) (xs : List ℕ) → p.number ≡ line → gathered room (events_from (on_after p a (nested_from last ls)) w) xs ≡ on_turn (nest_turn a (in_event p.parts) p.name room line p.content w xs) line (answers room last ls)
  unfolding on_after nest_turn events_from gathered on_turn
  nest_turned broken p w xs e = ap (λ (k : ℕ). refused_at_lem ICAL k) e
  nest_turned (open_are qs) p w xs e = inside_turned (in_event p.parts) p w qs xs e

pub turned : (room last : ℕ) (l : Line) (ls : List Line) (h : Here) → answers room last (l ∷ ls) h ≡ on_turn (turn_of room l h) l.number (answers room last ls)
unfolding answers from_here nested_from turn_of on_line on_placed place blank_turn_of line_turn on_turn
turned room last l ls h = go (is_blank l.bytes)
  where
    go : (b : Bool) → gathered room (events_from (on_line b l h.parts (nested_from last ls)) h.draft) h.dates ≡ on_turn (blank_turn_of b room l h) l.number (answers room last ls)
    go true = refl
    go false =
        let c : Content = content_of l.bytes in
        nest_turned room last l.number ls (after (name_of c.name) c.said h.parts) (record { number = l.number; parts = h.parts; name = name_of c.name; content = c }) h.draft h.dates refl

-- ---- the lines, one after the other: refused with a number at a line, or accepted
-- the first line that stops, or a part that is left open behind the last
pub data Refused (room last : ℕ) : List Line → Here → ℕ → ℕ → Type 0 where
  stopped : {l : Line} {ls : List Line} {h : Here} {number : ℕ} → turn_of room l h ≡ stops number → Refused room last (l ∷ ls) h number l.number
  later : {l : Line} {ls : List Line} {h i : Here} {number line : ℕ} → turn_of room l h ≡ goes i → Refused room last ls i number line → Refused room last (l ∷ ls) h number line
  left : {h : Here} {p : Bytes} {ps : Parts} → h.parts ≡ p ∷ ps → Refused room last [] h ICAL last

-- no line stops, and nothing is open at the end
pub data Accepted (room : ℕ) : List Line → Here → List ℕ → Type 0 where
  done : {h : Here} → h.parts ≡ [] → Accepted room [] h h.dates
  onwards : {l : Line} {ls : List Line} {h i : Here} {ds : List ℕ} → turn_of room l h ≡ goes i → Accepted room ls i ds → Accepted room (l ∷ ls) h ds

at_last : (room last : ℕ) (ps : Parts) (h : Here) → h.parts ≡ ps → answers room last [] h ≡ gathered room (events_from (at_end last ps) h.draft) h.dates
unfolding answers from_here nested_from
at_last room last ps h e = rw e

pub refused_so : {room last : ℕ} {ls : List Line} {h : Here} {number line : ℕ} → Refused room last ls h number line → answers room last ls h ≡ refused_at_lem number line
unfolding on_turn at_end events_from gathered
refused_so {room} {last} (stopped {l} {ls} {h} e) = turned room last l ls h ∙ rw e
refused_so {room} {last} (later {l} {ls} {h} e r) = turned room last l ls h ∙ rw e (refused_so r)
refused_so {room} {last} (left {h} {p} {ps} e) = at_last room last (p ∷ ps) h e

pub accepted_so : {room : ℕ} (last : ℕ) {ls : List Line} {h : Here} {ds : List ℕ} → Accepted room ls h ds → answers room last ls h ≡ days ds
unfolding on_turn at_end events_from gathered
accepted_so {room} last (done {h} e) = at_last room last [] h e
accepted_so {room} last (onwards {l} {ls} {h} e r) = turned room last l ls h ∙ rw e (accepted_so last r)

-- ---- and one of the two is so
pub data Verdict (room last : ℕ) (ls : List Line) (h : Here) : Type 0 where
  is_refused : (number line : ℕ) → Refused room last ls h number line → Verdict room last ls h
  is_accepted : (ds : List ℕ) → Accepted room ls h ds → Verdict room last ls h

pub verdict : (room last : ℕ) (ls : List Line) (h : Here) → Verdict room last ls h
verdict room last [] h = go h.parts refl
  where
    go : (ps : Parts) → h.parts ≡ ps → Verdict room last [] h
    go [] e = is_accepted h.dates (done e)
    go (p ∷ ps) e = is_refused ICAL last (left e)
verdict room last (l ∷ ls) h = go (verdict room last ls) (turn_of room l h) refl
  where
    onto : (i : Here) → turn_of room l h ≡ goes i → Verdict room last ls i → Verdict room last (l ∷ ls) h
    onto i e (is_refused number line r) = is_refused number line (later e r)
    onto i e (is_accepted ds r) = is_accepted ds (onwards e r)

    go : ((i : Here) → Verdict room last ls i) → (t : Turn) → turn_of room l h ≡ t → Verdict room last (l ∷ ls) h
    go on (goes i) e = onto i e (on i)
    go on (stops number) e = is_refused number l.number (stopped e)

-- ---- so each answer is given exactly then
pub refused_only : (room last : ℕ) (ls : List Line) (h : Here) (number line : ℕ) → answers room last ls h ≡ refused_at_lem number line → Refused room last ls h number line
refused_only room last ls h number line e = go (verdict room last ls h)
  where
    go : Verdict room last ls h → Refused room last ls h number line
    go (is_refused m k r) =
        let f : refused_at_lem m k ≡ refused_at_lem number line = sym (refused_so r) ∙ e in
        let p : m ≡ number = cc in
        let q : k ≡ line = cc in
        rw (← p, ← q) r
    go (is_accepted ds r) =
        let f : days ds ≡ refused_at_lem number line = sym (accepted_so last r) ∙ e in
        let z : ◌≡◌ {A = ℕ} 0 1 = cc in
        let bad : ⊥ = omega arith in
        absurd bad

pub accepted_only : (room last : ℕ) (ls : List Line) (h : Here) (ds : List ℕ) → answers room last ls h ≡ days ds → Accepted room ls h ds
accepted_only room last ls h ds e = go (verdict room last ls h)
  where
    go : Verdict room last ls h → Accepted room ls h ds
    go (is_refused m k r) =
        let f : refused_at_lem m k ≡ days ds = sym (refused_so r) ∙ e in
        let z : ◌≡◌ {A = ℕ} 0 1 = cc in
        let bad : ⊥ = omega arith in
        absurd bad
    go (is_accepted es r) =
        let f : days es ≡ days ds = sym (accepted_so last r) ∙ e in
        let p : es ≡ ds = cc in
        rw (← p) r

-- ---- of a file of 1 to 65,536 bytes that are not blank lines alone
abbrev pub START : Here
START = record { parts = []; draft = blank; dates = [] }

module _ (file : Bytes) (room : ℕ) (size : size_ok (length file) ≡ true) (text : all_blank (lines_of file) ≡ false) where
  from_start : import_of file room ≡ answers room (last_of (lines_of file)) (lines_of file) START
  unfolding answers
  from_start = at_start file room size text

  pub import_refused : (number line : ℕ) → Refused room (last_of (lines_of file)) (lines_of file) START number line → import_of file room ≡ refused_at_lem number line
  import_refused number line r = from_start ∙ refused_so r

  pub import_refused_only : (number line : ℕ) → import_of file room ≡ refused_at_lem number line → Refused room (last_of (lines_of file)) (lines_of file) START number line
  import_refused_only number line e = refused_only room _ (lines_of file) START number line (sym from_start ∙ e)

  pub import_accepted : (ds : List ℕ) → Accepted room (lines_of file) START ds → import_of file room ≡ days ds
  import_accepted ds r = from_start ∙ accepted_so (last_of (lines_of file)) r

  pub import_accepted_only : (ds : List ℕ) → import_of file room ≡ days ds → Accepted room (lines_of file) START ds
  import_accepted_only ds e = accepted_only room _ (lines_of file) START ds (sym from_start ∙ e)
