-- The list that an import gives passes the calendar's own check of closed dates, and has room in the list lent.
-- Assumes nothing.
use Rattle.std.specs.Prelude.{ℕ, ◌+◌, ◌-◌, ◌%◌, ◌≤◌, ◌<◌, ◌≡◌, refl, Bool, true, false, ◌&&◌, List, [], ◌∷◌, eqb, leb, ltb}
use Rattle.std.proofs.Common.{inl, inr, arith, ltb-true, leb-true, le-leb}
use Rattle.std.proofs.Math.Logic.{⊎_elim}
use Rattle.std.proofs.Math.ListN.{length}
use Rattle.refusal.specs.Answer.{given, BOOK, ICAL}
use Rattle.refusal.specs.Answer as answer
use Rattle.calendar.specs.Open.{ascending, closed_ok, calendar_ok}
use Rattle.calendar.specs.Calendar.{check_of}
use Rattle.holidays.specs.Words.{Bytes, Course, ended, refused_at, next}
use Rattle.holidays.specs.Lines.{lines_of}
use Rattle.holidays.specs.Content.{Content, Name, begin, end, dtstart, dtend, recurring, other}
use Rattle.holidays.specs.Nesting.{Placed, nested}
use Rattle.holidays.specs.Dated.{Dated, all_day, timed, bad, CYCLE, dated}
use Rattle.holidays.specs.Events.{Event, Said, nothing, day, Draft, blank, in_event, on_dated, unless_said, need, closed, closed_by, by_name, on_place, events_from, events}
use Rattle.holidays.specs.Laws.Listed.{◌∈◌, Ascending}
use Rattle.holidays.specs.Import.{days, MOST, import_of}
use Rattle.holidays.specs.Laws.Set.{Has, events_of, import_gathers}

-- ---- each event has a day, and its days lie in 1800 to 2399
pub record Proper (e : Event) : Type 0 where
  pub from_1800 : 657072 ≤ e.first
  pub some_day : e.first < e.past
  pub to_2399 : e.past ≤ 876217

abbrev pub AllProper : Course Event → Type 0
AllProper ended = Unit {0}
AllProper (refused_at number line) = Unit {0}
AllProper (next e es) = Proper e × AllProper es

closed_proper : (line from to : ℕ) (rest : Course Event) → AllProper rest → AllProper (closed line from to rest)
unfolding closed need
closed_proper line from to rest h = go (ltb from to) (leb (CYCLE + 657072) from) (leb to (CYCLE + 876217)) refl refl refl
  where
    go : (a b c : Bool) → ltb from to ≡ a → leb (CYCLE + 657072) from ≡ b → leb to (CYCLE + 876217) ≡ c → AllProper (need ICAL line a (need BOOK line b (need BOOK line c (next (record { first = from - CYCLE; past = to - CYCLE; line = line }) rest))))
    go false b c p q r = tt
    go true false c p q r = tt
    go true true false p q r = tt
    go true true true p q r =
        let x : from < to = ltb-true from to p in
        let y : CYCLE + 657072 ≤ from = leb-true (CYCLE + 657072) from q in
        let z : to ≤ CYCLE + 876217 = leb-true to (CYCLE + 876217) r in
        (record { from_1800 = omega arith; some_day = omega arith; to_2399 = omega arith }, h)

closed_by_proper : (line : ℕ) (start stop : Said) (rest : Course Event) → AllProper rest → AllProper (closed_by line start stop rest)
unfolding closed_by
closed_by_proper line nothing stop rest h = tt
closed_by_proper line (day from) nothing rest h = closed_proper line from (from + 1) rest h
closed_by_proper line (day from) (day to) rest h = closed_proper line from to rest h

dated_proper : (line : ℕ) (s : Said) (t : Dated) (on : ℕ → Course Event) → ((d : ℕ) → AllProper (on d)) → AllProper (unless_said s line t on)
unfolding unless_said on_dated
dated_proper line nothing (all_day d) on h = h d
dated_proper line nothing timed on h = tt
dated_proper line nothing bad on h = tt
dated_proper line (day d) t on h = tt

name_proper : (n : Name) (line : ℕ) (c : Content) (w : Draft) (on : Draft → Course Event) → ((v : Draft) → AllProper (on v)) → AllProper (by_name n line c w on)
unfolding by_name
name_proper begin line c w on h = h w
name_proper end line c w on h = closed_by_proper line w.start w.stop (on blank) (h blank)
name_proper dtstart line c w on h = dated_proper line w.start (dated c) _ (λ d. h (record { start = day d; stop = w.stop }))
name_proper dtend line c w on h = dated_proper line w.stop (dated c) _ (λ d. h (record { start = w.start; stop = day d }))
name_proper recurring line c w on h = tt
name_proper other line c w on h = h w

place_proper : (b : Bool) (p : Placed) (w : Draft) (on : Draft → Course Event) → ((v : Draft) → AllProper (on v)) → AllProper (on_place b p w on)
unfolding on_place
place_proper true p w on h = name_proper p.name p.number p.content w on h
place_proper false p w on h = h w

pub events_proper : (ps : Course Placed) (w : Draft) → AllProper (events_from ps w)
unfolding events_from
events_proper ended w = tt
events_proper (refused_at number line) w = tt
events_proper (next p ps) w = place_proper (in_event p.parts) p w (events_from ps) (events_proper ps)

-- ---- so do the days
pub has_within : (es : Course Event) (d : ℕ) → AllProper es → Has es d → (657072 ≤ d) × (d < 876217)
has_within ended d h i = absurd i
has_within (refused_at number line) d h i = absurd i
has_within (next e es) d h (inl i) = let p : Proper e = h.0 in (omega (arith, p.from_1800), omega (arith, p.to_2399))
has_within (next e es) d h (inr i) = has_within es d h.1 i

-- ---- the calendar's test
both_true : (a b : Bool) → a ≡ true → b ≡ true → (a && b) ≡ true
both_true true b p q = q
both_true false b p q = p

ascending_true : (low high : ℕ) (ds : List ℕ) → Ascending ds → ((d : ℕ) → d ∈ ds → (low ≤ d) × (d ≤ high)) → ascending low high ds ≡ true
unfolding ascending
ascending_true low high [] a h = refl
ascending_true low high (x ∷ xs) a h =
    let l = h x (inl refl) in
    both_true (leb low x) _ (le-leb low x l.0)
    (both_true (leb x high) _ (le-leb x high l.1)
    (ascending_true (x + 1) high xs a.1 (λ d i. (omega (arith, a.0 d i), (h d (inr i)).1))))

module _ (file : Bytes) (room : ℕ) (ds : List ℕ) (h : import_of file room ≡ days ds) where
  within : (d : ℕ) → d ∈ ds → (657072 ≤ d) × (d < 876217)
  unfolding events_of events
  within d i =
      ⊎_elim
      (λ (b : d ∈ []). absurd b)
      (λ (j : Has (events_of file) d). has_within (events_of file) d (events_proper (nested (lines_of file)) blank) j)
      ((import_gathers file room ds h).only d i)

  -- the closed dates are in order
  pub import_closed_ok : closed_ok ds ≡ true
  unfolding closed_ok
  import_closed_ok =
      let g = import_gathers file room ds h in
      let l : length ds ≤ MOST = omega (arith, g.room_for) in
      both_true (leb (length ds) 4096) _ (le-leb (length ds) 4096 l) (ascending_true 657072 876216 ds g.ascends (λ d i. ((within d i).0, omega (arith, (within d i).1))))

  -- with any mask that leaves a weekday open they are a calendar
  pub import_checks : (mask : ℕ) → eqb (mask % 128) 127 ≡ false → check_of mask ds ≡ given tt
  unfolding check_of calendar_ok answer.need
  import_checks mask e = rw (e, import_closed_ok)

  -- and there is a place for each
  pub import_has_room : length ds ≤ room
  import_has_room = let g = import_gathers file room ds h in omega (arith, g.room_for)
