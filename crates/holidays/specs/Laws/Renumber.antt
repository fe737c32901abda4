-- Line numbers are told and never read: lines with other numbers give the same days or the same refusal, at the other number.
-- Assumes nothing.
use Rattle.std.specs.Prelude.{ℕ, ◌+◌, ◌-◌, ◌≡◌, Bool, ◌&&◌, leb, ltb}
use Rattle.std.proofs.Math.Path.{refl, ap}
use Rattle.std.proofs.Common.{◌∙◌}
use Rattle.std.proofs.Math.Bool.{true, false}
use mathlib.Core.List.{List, [], ◌∷◌}
use Rattle.refusal.specs.Answer.{BOOK, ICAL}
use Rattle.holidays.specs.Words.{pick, Course, ended, refused_at, next}
use Rattle.holidays.specs.Lines.{Line}
use Rattle.holidays.specs.Content.{Content, content_of, Name, begin, end, dtstart, dtend, recurring, other, name_of}
use Rattle.holidays.specs.Nesting.{Parts, After, broken, open_are, after, Placed, last_of, is_blank, all_blank, at_end, on_after, place, on_placed, on_line, nested_from, nested}
use Rattle.holidays.specs.Dated.{Dated, all_day, timed, bad, CYCLE, dated}
use Rattle.holidays.specs.Events.{Event, Said, nothing, day, Draft, blank, in_event, on_dated, unless_said, need, closed, closed_by, by_name, on_place, events_from, events}
use Rattle.holidays.specs.Import.{Import, days, refused_at_lem, with_event, fits, on_room, on_days, gathered}

module _ (f : ℕ → ℕ) where
  -- ---- the same with other numbers
  abbrev pub line_as : Line → Line
  line_as l = record { number = f l.number; bytes = l.bytes }

  abbrev pub placed_as : Placed → Placed
  placed_as p = record { number = f p.number; parts = p.parts; name = p.name; content = p.content }

  abbrev pub event_as : Event → Event
  event_as e = record { first = e.first; past = e.past; line = f e.line }

  unfoldable pub lines_as : List Line → List Line
  lines_as [] = []
  lines_as (l ∷ ls) = line_as l ∷ lines_as ls

  unfoldable pub places_as : Course Placed → Course Placed
  places_as ended = ended
  places_as (refused_at number line) = refused_at number (f line)
  places_as (next p ps) = next (placed_as p) (places_as ps)

  unfoldable pub events_as : Course Event → Course Event
  events_as ended = ended
  events_as (refused_at number line) = refused_at number (f line)
  events_as (next e es) = next (event_as e) (events_as es)

  unfoldable pub import_as : Import → Import
  import_as (days ds) = days ds
  import_as (refused_at_lem number line) = refused_at_lem number (f line)

  -- ---- nesting
  after_as : (p : Placed) (a : After) (on more : Parts → Course Placed) → ((ps : Parts) → more ps ≡ places_as (on ps)) → on_after (placed_as p) a more ≡ places_as (on_after p a on)
  unfolding on_after places_as
  after_as p broken on more h = refl
  after_as p (open_are ps) on more h = ap (λ (k : Course Placed). next (placed_as p) k) (h ps)

  line_onwards : (b : Bool) (l : Line) (ps : Parts) (on more : Parts → Course Placed) → ((qs : Parts) → more qs ≡ places_as (on qs)) → on_line b (line_as l) ps more ≡ places_as (on_line b l ps on)
  unfolding on_line on_placed place
  line_onwards true l ps on more h = h ps
  line_onwards false l ps on more h =
      after_as
      (record { number = l.number; parts = ps; name = name_of (content_of l.bytes).name; content = content_of l.bytes })
      (after (name_of (content_of l.bytes).name) (content_of l.bytes).said ps)
      on
      more
      h

  end_as : (last : ℕ) (ps : Parts) → at_end (f last) ps ≡ places_as (at_end last ps)
  unfolding at_end places_as
  end_as last [] = refl
  end_as last (p ∷ ps) = refl

  pub nested_from_as : (last : ℕ) (ls : List Line) (ps : Parts) → nested_from (f last) (lines_as ls) ps ≡ places_as (nested_from last ls ps)
  unfolding nested_from lines_as
  nested_from_as last [] ps = end_as last ps
  nested_from_as last (l ∷ ls) ps = line_onwards (is_blank l.bytes) l ps (nested_from last ls) (nested_from (f last) (lines_as ls)) (nested_from_as last ls)

  pub blank_as : (ls : List Line) → all_blank (lines_as ls) ≡ all_blank ls
  unfolding all_blank lines_as
  blank_as [] = refl
  blank_as (l ∷ ls) = ap (λ (b : Bool). is_blank l.bytes && b) (blank_as ls)

  last_as : (l : Line) (ls : List Line) → last_of (lines_as (l ∷ ls)) ≡ f (last_of (l ∷ ls))
  unfolding last_of lines_as
  last_as l [] = refl
  last_as l (m ∷ ls) = last_as m ls

  nested_as : (l : Line) (ls : List Line) → nested (lines_as (l ∷ ls)) ≡ places_as (nested (l ∷ ls))
  unfolding nested pick places_as
  nested_as l ls =
      ap (λ (k : ℕ). pick (all_blank (lines_as (l ∷ ls))) (refused_at ICAL k) (nested_from k (lines_as (l ∷ ls)) [])) (last_as l ls)
      ∙ ap (λ (b : Bool). pick b (refused_at ICAL (f (last_of (l ∷ ls)))) (nested_from (f (last_of (l ∷ ls))) (lines_as (l ∷ ls)) [])) (blank_as (l ∷ ls))
      ∙ ap (λ (k : Course Placed). pick (all_blank (l ∷ ls)) (refused_at ICAL (f (last_of (l ∷ ls)))) k) (nested_from_as (last_of (l ∷ ls)) (l ∷ ls) [])
      ∙ inside (all_blank (l ∷ ls)) (last_of (l ∷ ls)) (nested_from (last_of (l ∷ ls)) (l ∷ ls) [])
    where
      inside : (b : Bool) (k : ℕ) (c : Course Placed) → pick b (refused_at ICAL (f k)) (places_as c) ≡ places_as (pick b (refused_at ICAL k) c)
      inside true k c = refl
      inside false k c = refl

  -- ---- events
  closed_as : (line from to : ℕ) (rest more : Course Event) → more ≡ events_as rest → closed (f line) from to more ≡ events_as (closed line from to rest)
  unfolding closed need events_as
  closed_as line from to rest more h = go (ltb from to) (leb (CYCLE + 657072) from) (leb to (CYCLE + 876217))
    where
      go : (a b c : Bool) → need ICAL (f line) a (need BOOK (f line) b (need BOOK (f line) c (next (record { first = from - CYCLE; past = to - CYCLE; line = f line }) more))) ≡ events_as (need ICAL line a (need BOOK line b (need BOOK line c (next (record { first = from - CYCLE; past = to - CYCLE; line = line }) rest))))
      go false b c = refl
      go true false c = refl
      go true true false = refl
      go true true true = ap (λ (k : Course Event). next (record { first = from - CYCLE; past = to - CYCLE; line = f line }) k) h

  closed_by_as : (line : ℕ) (start stop : Said) (rest more : Course Event) → more ≡ events_as rest → closed_by (f line) start stop more ≡ events_as (closed_by line start stop rest)
  unfolding closed_by events_as
  closed_by_as line nothing stop rest more h = refl
  closed_by_as line (day from) nothing rest more h = closed_as line from (from + 1) rest more h
  closed_by_as line (day from) (day to) rest more h = closed_as line from to rest more h

  dated_as : (line : ℕ) (s : Said) (t : Dated) (on more : ℕ → Course Event) → ((d : ℕ) → more d ≡ events_as (on d)) → unless_said s (f line) t more ≡ events_as (unless_said s line t on)
  unfolding unless_said on_dated events_as
  dated_as line nothing (all_day d) on more h = h d
  dated_as line nothing timed on more h = refl
  dated_as line nothing bad on more h = refl
  dated_as line (day d) t on more h = refl

  name_as : (n : Name) (line : ℕ) (c : Content) (w : Draft) (on more : Draft → Course Event) → ((v : Draft) → more v ≡ events_as (on v)) → by_name n (f line) c w more ≡ events_as (by_name n line c w on)
  unfolding by_name events_as
  name_as begin line c w on more h = h w
  name_as end line c w on more h = closed_by_as line w.start w.stop (on blank) (more blank) (h blank)
  name_as dtstart line c w on more h = dated_as line w.start (dated c) _ _ (λ d. h (record { start = day d; stop = w.stop }))
  name_as dtend line c w on more h = dated_as line w.stop (dated c) _ _ (λ d. h (record { start = w.start; stop = day d }))
  name_as recurring line c w on more h = refl
  name_as other line c w on more h = h w

  place_as : (b : Bool) (p : Placed) (w : Draft) (on more : Draft → Course Event) → ((v : Draft) → more v ≡ events_as (on v)) → on_place b (placed_as p) w more ≡ events_as (on_place b p w on)
  unfolding on_place
  place_as true p w on more h = name_as p.name p.number p.content w on more h
  place_as false p w on more h = h w

  pub events_from_as : (ps : Course Placed) (w : Draft) → events_from (places_as ps) w ≡ events_as (events_from ps w)
  unfolding events_from places_as events_as
  events_from_as ended w = refl
  events_from_as (refused_at number line) w = refl
  events_from_as (next p ps) w = place_as (in_event p.parts) p w (events_from ps) (events_from (places_as ps)) (events_from_as ps)

  -- ---- days
  gathered_as : (room : ℕ) (es : Course Event) (xs : List ℕ) → gathered room (events_as es) xs ≡ import_as (gathered room es xs)
  unfolding gathered events_as import_as on_days on_room with_event
  gathered_as room ended xs = refl
  gathered_as room (refused_at number line) xs = refl
  gathered_as room (next e es) xs = go (gathered_as room es (with_event e xs)) (fits room (with_event e xs))
    where
      go : gathered room (events_as es) (with_event e xs) ≡ import_as (gathered room es (with_event e xs)) → (b : Bool) → on_room b room (f e.line) (with_event e xs) (gathered room (events_as es)) ≡ import_as (on_room b room e.line (with_event e xs) (gathered room es))
      go h true = h
      go h false = refl

  -- ---- from lines to the answer
  pub renumbered : (room : ℕ) (l : Line) (ls : List Line) → gathered room (events (nested (lines_as (l ∷ ls)))) [] ≡ import_as (gathered room (events (nested (l ∷ ls))) [])
  unfolding events
  renumbered room l ls =
      ap (λ (k : Course Placed). gathered room (events_from k blank) []) (nested_as l ls)
      ∙ ap (λ (k : Course Event). gathered room k []) (events_from_as (nested (l ∷ ls)) blank)
      ∙ gathered_as room (events_from (nested (l ∷ ls)) blank) []
