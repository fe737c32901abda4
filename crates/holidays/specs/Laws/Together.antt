-- Two files put together: the days of both, or 23 or 14 where these have no place.
-- Assumes nothing.
use Prim.Native.Nat.{ℕ, suc, ◌+◌, ◌-◌, ◌≤◌, ◌<◌, min}
use Rattle.std.specs.Prelude.{◌≡◌, Bool, ◌&&◌, ◌||◌, ◌⊎◌, eqb, leb, ltb}
use Rattle.std.proofs.Math.Path.{refl, ap, sym}
use Rattle.std.proofs.Common.{◌∙◌, subst, ⊎_elim, length-append, leb-true, leb-false, le-leb, eqb-true}
use Rattle.std.proofs.Math.Bool.{true, false}
use Rattle.std.proofs.lemmas.Bool.{false≢true}
use Rattle.std.proofs.Math.Logic.{inl, inr}
use mathlib.Core.List.{List, [], ◌∷◌, ◌++◌, append_assoc, append-nil}
use native.Mathlib.Omega.{arith}
use Rattle.std.proofs.Math.ListN.{length}
use Rattle.refusal.specs.Answer.{BOOK, ICAL}
use Rattle.refusal.specs.Laws.Answers.{both}
use Rattle.holidays.specs.Words.{Bytes, pick, upper, uppers, equal, ascii, spells, LF, CR, BLANK, TAB, Course, ended, refused_at, next}
use Rattle.holidays.specs.Lines.{starts_with, in_front, by_byte, physical, without_mark, unmarked, continues, onto, continued, Line, unless, lines_from, unfolded, lines_of}
use Rattle.holidays.specs.Content.{Value, none, value, Content, turned, by_mark, content_from, content_of, Name, begin, end, dtstart, dtend, recurring, other, name_of}
use Rattle.holidays.specs.Nesting.{Parts, may_begin, may_end, within, After, broken, open_are, after_begin, after_end, after_other, after, Placed, last_of, is_blank, all_blank, at_end, on_after, place, on_placed, on_line, nested_from, nested}
use Rattle.holidays.specs.Dated.{Dated, all_day, timed, bad, CYCLE, dated}
use Rattle.holidays.specs.Events.{Event, Said, nothing, day, Draft, blank, in_event, on_dated, unless_said, need, closed, closed_by, by_name, on_place, events_from, events}
use Rattle.holidays.specs.Import.{Import, days, refused_at_lem, with_event, MOST, full, fits, on_room, on_days, gathered, size_ok, import_of}
use Rattle.holidays.specs.Laws.Listed.{◌∈◌, Ascending, Lists}
use Rattle.holidays.specs.Laws.Set.{InEvent, Has, event_in, event_has, event_keeps, event_ascends, events_of, the_set}
use Rattle.holidays.specs.Laws.Walk.{first_line, later_lines, some_line, file_lines}
use Rattle.holidays.specs.Laws.Renumber.{line_as, lines_as, events_as, nested_from_as, events_from_as}

-- ---- courses without a refusal, and one behind another
abbrev pub Whole : Course Event → Type 0
Whole ended = Unit {0}
Whole (refused_at number line) = ⊥
Whole (next e es) = Whole es

unfoldable pub behind : Course Event → Course Event → Course Event
behind ended r = r
behind (refused_at number line) r = refused_at number line
behind (next e es) r = next e (behind es r)

-- ---- a VEVENT is open somewhere
unfoldable inside : Parts → Bool
inside [] = false
inside (p ∷ ps) = spells p "VEVENT" || inside ps

or_false : (a b : Bool) → (a || b) ≡ false → (a ≡ false) × (b ≡ false)
or_false true b h = absurd (false≢true (sym h))
or_false false b h = (refl, h)

in_event_inside : (ps : Parts) → in_event ps ≡ true → inside ps ≡ true
unfolding in_event inside
in_event_inside [] h = absurd (false≢true h)
in_event_inside (p ∷ ps) h = rw h

or_true : (a b : Bool) → b ≡ true → (a || b) ≡ true
or_true true b h = refl
or_true false b h = h

-- where a line that is not directly in a VEVENT leaves none open, none was open
module _ (qs : Parts) where
  never : {A : Type 0} (ps : Parts) → broken ≡ open_are ps → A
  never ps h = let z : ◌≡◌ {A = ℕ} 0 1 = cc in let bad : ⊥ = omega arith in absurd bad

  same_parts : (ps : Parts) → open_are ps ≡ open_are qs → ps ≡ qs
  same_parts ps h = cc

  other_parts : (ps : Parts) → after_other ps ≡ open_are qs → ps ≡ qs
  unfolding after_other
  other_parts [] h = never qs h
  other_parts (p ∷ ps) h = same_parts (p ∷ ps) h

  begin_parts : (v : Value) (ps : Parts) → after_begin v ps ≡ open_are qs → inside qs ≡ false → inside ps ≡ false
  unfolding after_begin inside pick
  begin_parts none ps h i = never qs h
  begin_parts (value name) ps h i = go (may_begin name ps) h
    where
      go : (b : Bool) → pick b (open_are (uppers name ∷ ps)) broken ≡ open_are qs → inside ps ≡ false
      go true k = (or_false (spells (uppers name) "VEVENT") (inside ps) (ap inside (same_parts (uppers name ∷ ps) k) ∙ i)).1
      go false k = never qs k

  begin_inside : (v : Value) (ps : Parts) → after_begin v ps ≡ open_are qs → inside ps ≡ true → inside qs ≡ true
  unfolding after_begin inside pick
  begin_inside none ps h i = never qs h
  begin_inside (value name) ps h i = go (may_begin name ps) h
    where
      go : (b : Bool) → pick b (open_are (uppers name ∷ ps)) broken ≡ open_are qs → inside qs ≡ true
      go true k = ap inside (sym (same_parts (uppers name ∷ ps) k)) ∙ or_true (spells (uppers name) "VEVENT") (inside ps) i
      go false k = never qs k

  end_parts : (v : Value) (ps : Parts) → after_end v ps ≡ open_are qs → in_event ps ≡ false → inside qs ≡ false → inside ps ≡ false
  unfolding after_end may_end within in_event inside pick
  end_parts none ps h e i = never qs h
  end_parts (value name) [] h e i = refl
  end_parts (value name) (p ∷ ps) h e i = go (equal (uppers name) p) h
    where
      go : (b : Bool) → pick b (open_are ps) broken ≡ open_are qs → (spells p "VEVENT" || inside ps) ≡ false
      go true k = rw e (ap inside (same_parts ps k) ∙ i)
      go false k = never qs k

  outside : (n : Name) (v : Value) (ps : Parts) → after n v ps ≡ open_are qs → in_event ps ≡ false → inside qs ≡ false → inside ps ≡ false
  unfolding after
  outside begin v ps h e i = begin_parts v ps h i
  outside end v ps h e i = end_parts v ps h e i
  outside dtstart v ps h e i = ap inside (other_parts ps h) ∙ i
  outside dtend v ps h e i = ap inside (other_parts ps h) ∙ i
  outside recurring v ps h e i = ap inside (other_parts ps h) ∙ i
  outside other v ps h e i = ap inside (other_parts ps h) ∙ i

-- a line directly in a VEVENT leaves it open, unless it ends it
abbrev Stays : Name → Parts → Type 0
Stays begin qs = inside qs ≡ true
Stays end qs = Unit {0}
Stays dtstart qs = inside qs ≡ true
Stays dtend qs = inside qs ≡ true
Stays recurring qs = Unit {0}
Stays other qs = inside qs ≡ true

stays : (qs : Parts) (n : Name) (v : Value) (ps : Parts) → after n v ps ≡ open_are qs → in_event ps ≡ true → Stays n qs
unfolding after
stays qs begin v ps h e = begin_inside qs v ps h (in_event_inside ps e)
stays qs end v ps h e = tt
stays qs dtstart v ps h e = ap inside (sym (other_parts qs ps h)) ∙ in_event_inside ps e
stays qs dtend v ps h e = ap inside (sym (other_parts qs ps h)) ∙ in_event_inside ps e
stays qs recurring v ps h e = tt
stays qs other v ps h e = ap inside (sym (other_parts qs ps h)) ∙ in_event_inside ps e

-- ---- events behind events: outside every VEVENT nothing has been said
abbrev Held : Parts → Draft → Type 0
Held ps w = inside ps ≡ false → w ≡ blank

open_held : (qs : Parts) (w : Draft) → inside qs ≡ true → Held qs w
open_held qs w o i = absurd (false≢true (sym i ∙ o))

module _ (r : Course Event) where
  closed_behind : (line from to : ℕ) (rest more : Course Event) → (Whole rest → more ≡ behind rest r) → Whole (closed line from to rest) → closed line from to more ≡ behind (closed line from to rest) r
  unfolding closed need behind
  closed_behind line from to rest more h = go (ltb from to) (leb (CYCLE + 657072) from) (leb to (CYCLE + 876217))
    where
      go : (a b c : Bool) → Whole (need ICAL line a (need BOOK line b (need BOOK line c (next (record { first = from - CYCLE; past = to - CYCLE; line = line }) rest)))) → need ICAL line a (need BOOK line b (need BOOK line c (next (record { first = from - CYCLE; past = to - CYCLE; line = line }) more))) ≡ behind (need ICAL line a (need BOOK line b (need BOOK line c (next (record { first = from - CYCLE; past = to - CYCLE; line = line }) rest)))) r
      go false b c g = absurd g
      go true false c g = absurd g
      go true true false g = absurd g
      go true true true g = ap (λ (k : Course Event). next (record { first = from - CYCLE; past = to - CYCLE; line = line }) k) (h g)

  closed_by_behind : (line : ℕ) (start stop : Said) (rest more : Course Event) → (Whole rest → more ≡ behind rest r) → Whole (closed_by line start stop rest) → closed_by line start stop more ≡ behind (closed_by line start stop rest) r
  unfolding closed_by
  closed_by_behind line nothing stop rest more h g = absurd g
  closed_by_behind line (day from) nothing rest more h g = closed_behind line from (from + 1) rest more h g
  closed_by_behind line (day from) (day to) rest more h g = closed_behind line from to rest more h g

  dated_behind : (line : ℕ) (s : Said) (t : Dated) (on more : ℕ → Course Event) → ((d : ℕ) → Whole (on d) → more d ≡ behind (on d) r) → Whole (unless_said s line t on) → unless_said s line t more ≡ behind (unless_said s line t on) r
  unfolding unless_said on_dated
  dated_behind line nothing (all_day d) on more h g = h d g
  dated_behind line nothing timed on more h g = absurd g
  dated_behind line nothing bad on more h g = absurd g
  dated_behind line (day d) t on more h g = absurd g

  module _ (qs : Parts) (on more : Draft → Course Event) (h : (v : Draft) → Held qs v → Whole (on v) → more v ≡ behind (on v) r) where
    name_behind : (n : Name) (line : ℕ) (c : Content) (w : Draft) → Stays n qs → Whole (by_name n line c w on) → by_name n line c w more ≡ behind (by_name n line c w on) r
    unfolding by_name
    name_behind begin line c w o g = h w (open_held qs w o) g
    name_behind end line c w o g = closed_by_behind line w.start w.stop (on blank) (more blank) (h blank (λ i. refl)) g
    name_behind dtstart line c w o g =
        dated_behind line w.start (dated c) _ _ (λ d. h (record { start = day d; stop = w.stop }) (open_held qs _ o)) g
    name_behind dtend line c w o g =
        dated_behind line w.stop (dated c) _ _ (λ d. h (record { start = w.start; stop = day d }) (open_held qs _ o)) g
    name_behind recurring line c w o g = absurd g
    name_behind other line c w o g = h w (open_held qs w o) g

    place_behind : (b : Bool) (p : Placed) (w : Draft) → in_event p.parts ≡ b → after p.name p.content.said p.parts ≡ open_are qs → Held p.parts w → Whole (on_place b p w on) → on_place b p w more ≡ behind (on_place b p w on) r
    unfolding on_place
    place_behind true p w e a i g = name_behind p.name p.number p.content w (stays qs p.name p.content.said p.parts a e) g
    place_behind false p w e a i g = h w (λ k. i (outside qs p.name p.content.said p.parts a e k)) g

-- ---- lines behind lines
module _ (last last' : ℕ) (lb : List Line) where
  abbrev rest : Course Event
  rest = events_from (nested_from last lb []) blank

  after_behind : (p : Placed) (w : Draft) (a : After) (on more : Parts → Course Placed) → after p.name p.content.said p.parts ≡ a → Held p.parts w → ((qs : Parts) (v : Draft) → Held qs v → Whole (events_from (on qs) v) → events_from (more qs) v ≡ behind (events_from (on qs) v) rest) → Whole (events_from (on_after p a on) w) → events_from (on_after p a more) w ≡ behind (events_from (on_after p a on) w) rest
  unfolding on_after events_from
  after_behind p w broken on more e i h g = absurd g
  after_behind p w (open_are qs) on more e i h g = place_behind rest qs (events_from (on qs)) (events_from (more qs)) (h qs) (in_event p.parts) p w refl e i g

  line_behind : (b : Bool) (l : Line) (ps : Parts) (w : Draft) (on more : Parts → Course Placed) → Held ps w → ((qs : Parts) (v : Draft) → Held qs v → Whole (events_from (on qs) v) → events_from (more qs) v ≡ behind (events_from (on qs) v) rest) → Whole (events_from (on_line b l ps on) w) → events_from (on_line b l ps more) w ≡ behind (events_from (on_line b l ps on) w) rest
  unfolding on_line on_placed place
  line_behind true l ps w on more i h g = h ps w i g
  line_behind false l ps w on more i h g = after_behind (place l ps (content_of l.bytes)) w (after (name_of (content_of l.bytes).name) (content_of l.bytes).said ps) on more refl i h g

  lines_behind : (la : List Line) (ps : Parts) (w : Draft) → Held ps w → Whole (events_from (nested_from last' la ps) w) → events_from (nested_from last (la ++ lb) ps) w ≡ behind (events_from (nested_from last' la ps) w) rest
  unfolding nested_from at_end events_from behind inside
  lines_behind [] [] w i g = ap (events_from (nested_from last lb [])) (i refl)
  lines_behind [] (p ∷ ps) w i g = absurd g
  lines_behind (l ∷ la) ps w i g = line_behind (is_blank l.bytes) l ps w (nested_from last' la) (nested_from last (la ++ lb)) i (lines_behind la) g

-- ---- a file that ends a line, and another behind it
feed_kept : (t b : Bytes) → starts_with LF (t ++ (LF ∷ b)) ≡ starts_with LF (t ++ (LF ∷ []))
unfolding starts_with
feed_kept [] b = refl
feed_kept (c ∷ t) b = refl

in_front_kept : (c : ℕ) (l : Bytes) (ls ms : List Bytes) → in_front c ((l ∷ ls) ++ ms) ≡ in_front c (l ∷ ls) ++ ms
unfolding in_front
in_front_kept c l ls ms = refl

front_some : (c : ℕ) (ls : List Bytes) → 1 ≤ length (in_front c ls)
unfolding in_front
front_some c [] = omega arith
front_some c (l ∷ ls) = omega arith

lines_some : (u : Bytes) → 1 ≤ length (physical (u ++ (LF ∷ [])))
unfolding physical by_byte
lines_some [] = omega arith
lines_some (c ∷ u) = go (eqb c LF) (eqb c CR && starts_with LF (u ++ (LF ∷ []))) (lines_some u)
  where
    go : (x y : Bool) → 1 ≤ length (physical (u ++ (LF ∷ []))) → 1 ≤ length (by_byte x y c (physical (u ++ (LF ∷ []))))
    go true y on = omega arith
    go false true on = on
    go false false on = front_some c (physical (u ++ (LF ∷ [])))

some_physical : (t : Bytes) (ms : List Bytes) (c : ℕ) → in_front c (physical (t ++ (LF ∷ [])) ++ ms) ≡ in_front c (physical (t ++ (LF ∷ []))) ++ ms
some_physical t ms c = go (physical (t ++ (LF ∷ []))) (lines_some t)
  where
    go : (ls : List Bytes) → 1 ≤ length ls → in_front c (ls ++ ms) ≡ in_front c ls ++ ms
    go [] h = let bad : ⊥ = omega arith in absurd bad
    go (l ∷ ls) h = in_front_kept c l ls ms

physical_behind : (t b : Bytes) → physical (t ++ (LF ∷ b)) ≡ physical (t ++ (LF ∷ [])) ++ physical b
unfolding physical by_byte
physical_behind [] b = refl
physical_behind (c ∷ t) b = go (eqb c LF) (eqb c CR) (physical_behind t b) (feed_kept t b)
  where
    go : (x y : Bool) → physical (t ++ (LF ∷ b)) ≡ physical (t ++ (LF ∷ [])) ++ physical b → starts_with LF (t ++ (LF ∷ b)) ≡ starts_with LF (t ++ (LF ∷ [])) → by_byte x (y && starts_with LF (t ++ (LF ∷ b))) c (physical (t ++ (LF ∷ b))) ≡ by_byte x (y && starts_with LF (t ++ (LF ∷ []))) c (physical (t ++ (LF ∷ []))) ++ physical b
    go true y on e = ap (λ (ls : List Bytes). [] ∷ ls) on
    go false y on e = rw (e, on) (by_return (y && starts_with LF (t ++ (LF ∷ []))))
      where
        by_return : (z : Bool) → by_byte false z c (physical (t ++ (LF ∷ [])) ++ physical b) ≡ by_byte false z c (physical (t ++ (LF ∷ []))) ++ physical b
        by_return true = refl
        by_return false = some_physical t (physical b) c

-- lines behind lines, where the first of these continues none
module _ (pb : List Bytes) (starts : continued pb ≡ []) where
  continued_behind : (ls : List Bytes) → continued (ls ++ pb) ≡ continued ls
  unfolding continued
  continued_behind [] = starts
  continued_behind (l ∷ ls) = ap (onto (continues l) l) (continued_behind ls)

  unless_behind : (b : Bool) (l : Line) (xs ys : List Line) → unless b l (xs ++ ys) ≡ unless b l xs ++ ys
  unfolding unless
  unless_behind true l xs ys = refl
  unless_behind false l xs ys = refl

  from_behind : (n : ℕ) (ls : List Bytes) → lines_from n (ls ++ pb) ≡ lines_from n ls ++ lines_from (n + length ls) pb
  unfolding lines_from
  from_behind n [] = let e : n + 0 ≡ n = omega arith in ap (λ (k : ℕ). lines_from k pb) (sym e)
  from_behind n (l ∷ ls) =
      let e : suc n + length ls ≡ n + suc (length ls) = omega arith in
      ap (λ (s : Bytes). unless (continues l) (record { number = n; bytes = l ++ s }) (lines_from (suc n) (ls ++ pb))) (continued_behind ls)
      ∙ ap (unless (continues l) (record { number = n; bytes = l ++ continued ls })) (from_behind (suc n) ls ∙ ap (λ (k : ℕ). lines_from (suc n) ls ++ lines_from k pb) e)
      ∙ unless_behind (continues l) (record { number = n; bytes = l ++ continued ls }) (lines_from (suc n) ls) (lines_from (n + suc (length ls)) pb)

  unfolded_behind : (l : Bytes) (ls : List Bytes) → unfolded (unmarked ((l ∷ ls) ++ pb)) ≡ unfolded (unmarked (l ∷ ls)) ++ lines_from (2 + length ls) pb
  unfolding unfolded unmarked
  unfolded_behind l ls =
      ap (λ (s : Bytes). record { number = 1; bytes = without_mark l ++ s } ∷ lines_from 2 (ls ++ pb)) (continued_behind ls)
      ∙ ap (λ (ms : List Line). record { number = 1; bytes = without_mark l ++ continued ls } ∷ ms) (from_behind 2 ls)

unfoldable further : ℕ → ℕ → ℕ
further k i = i + k

lines_further : (k m : ℕ) (ls : List Bytes) → lines_from (m + k) ls ≡ lines_as (further k) (lines_from m ls)
unfolding lines_from lines_as further unless
lines_further k m [] = refl
lines_further k m (l ∷ ls) =
    let e : suc (m + k) ≡ suc m + k = omega arith in
    ap (λ (j : ℕ). unless (continues l) (record { number = m + k; bytes = l ++ continued ls }) (lines_from j ls)) e
    ∙ ap (unless (continues l) (record { number = m + k; bytes = l ++ continued ls })) (lines_further k (suc m) ls)
    ∙ sym (unless_further (continues l) (record { number = m; bytes = l ++ continued ls }) (lines_from (suc m) ls))
  where
    unless_further : (b : Bool) (x : Line) (xs : List Line) → lines_as (further k) (unless b x xs) ≡ unless b (line_as (further k) x) (lines_as (further k) xs)
    unless_further true x xs = refl
    unless_further false x xs = refl

-- ---- what an accepted file says
no_days : {A : Type 0} (number line : ℕ) (ds : List ℕ) → refused_at_lem number line ≡ days ds → A
no_days number line ds h = let z : ◌≡◌ {A = ℕ} 0 1 = cc in let bad : ⊥ = omega arith in absurd bad

gathered_whole : (room : ℕ) (es : Course Event) (xs ds : List ℕ) → gathered room es xs ≡ days ds → Whole es
unfolding gathered on_days on_room
gathered_whole room ended xs ds h = tt
gathered_whole room (refused_at number line) xs ds h = no_days number line ds h
gathered_whole room (next e es) xs ds h = go (fits room (with_event e xs)) (gathered_whole room es (with_event e xs) ds) h
  where
    go : (b : Bool) → (gathered room es (with_event e xs) ≡ days ds → Whole es) → on_room b room e.line (with_event e xs) (gathered room es) ≡ days ds → Whole es
    go true on q = on q
    go false on q = no_days (full room) e.line ds q

record Accepted (file : Bytes) : Type 0 where
  sized : (1 ≤ length file) × (length file ≤ 65536)
  not_blank : all_blank (lines_of file) ≡ false
  says : events_from (nested_from (last_of (lines_of file)) (lines_of file) []) blank ≡ events_of file
  whole : Whole (events_from (nested_from (last_of (lines_of file)) (lines_of file) []) blank)

accepted : (file : Bytes) (room : ℕ) (ds : List ℕ) → import_of file room ≡ days ds → Accepted file
unfolding import_of pick events_of events nested events_from
accepted file room ds h = by_size (size_ok (length file)) refl h
  where
    by_blank : (b : Bool) → all_blank (lines_of file) ≡ b → Whole (events_from (pick b (refused_at ICAL (last_of (lines_of file))) (nested_from (last_of (lines_of file)) (lines_of file) [])) blank) → size_ok (length file) ≡ true → Accepted file
    by_blank true q g s = absurd g
    by_blank false q g s =
        let p = both (leb 1 (length file)) (leb (length file) 65536) s in
        record {
          sized = (leb-true 1 (length file) p.0, leb-true (length file) 65536 p.1);
          not_blank = q;
          says = rw q;
          whole = g;
        }

    by_size : (b : Bool) → size_ok (length file) ≡ b → pick b (gathered room (events (nested (lines_of file))) []) (refused_at_lem ICAL 0) ≡ days ds → Accepted file
    by_size true s q = by_blank (all_blank (lines_of file)) refl (gathered_whole room (events (nested (lines_of file))) [] ds q) s
    by_size false s q = no_days ICAL 0 ds q

-- its first line starts with no blank and no tab
blank_stops : (last n : ℕ) (s : Bytes) (ls : List Line) → Whole (events_from (nested_from last (record { number = n; bytes = BLANK ∷ s } ∷ ls) []) blank) → ⊥
unfolding nested_from on_line is_blank on_placed place content_of content_from by_mark turned name_of spells uppers upper equal ascii pick after after_other on_after events_from
blank_stops last n s ls g = g

tab_stops : (last n : ℕ) (s : Bytes) (ls : List Line) → Whole (events_from (nested_from last (record { number = n; bytes = TAB ∷ s } ∷ ls) []) blank) → ⊥
unfolding nested_from on_line is_blank on_placed place content_of content_from by_mark turned name_of spells uppers upper equal ascii pick after after_other on_after events_from
tab_stops last n s ls g = g

blank_refused : (last n x : ℕ) (s : Bytes) (ls : List Line) → (eqb x BLANK || eqb x TAB) ≡ true → Whole (events_from (nested_from last (record { number = n; bytes = x ∷ s } ∷ ls) []) blank) → ⊥
blank_refused last n x s ls h g = go (eqb x BLANK) refl h
  where
    by_tab : eqb x TAB ≡ true → ⊥
    by_tab e = tab_stops last n s ls (subst (λ (y : ℕ). Whole (events_from (nested_from last (record { number = n; bytes = y ∷ s } ∷ ls) []) blank)) (eqb-true x TAB e) g)

    go : (b : Bool) → eqb x BLANK ≡ b → (b || eqb x TAB) ≡ true → ⊥
    go true e q = blank_stops last n s ls (subst (λ (y : ℕ). Whole (events_from (nested_from last (record { number = n; bytes = y ∷ s } ∷ ls) []) blank)) (eqb-true x BLANK e) g)
    go false e q = by_tab q

first_starts : (last n : ℕ) (l s : Bytes) (ls : List Line) → Whole (events_from (nested_from last (record { number = n; bytes = l ++ s } ∷ ls) []) blank) → continues l ≡ false
unfolding continues
first_starts last n [] s ls g = refl
first_starts last n (x ∷ l) s ls g = go (eqb x BLANK || eqb x TAB) refl
  where
    go : (b : Bool) → (eqb x BLANK || eqb x TAB) ≡ b → b ≡ false
    go true e = absurd (blank_refused last n x (l ++ s) ls e g)
    go false e = refl

-- ---- the answer to a course without a refusal: its days, or no place for them
pub data Together (room : ℕ) (P : ℕ → Type 0) : Import → Type 0 where
  all_days : (us : List ℕ) → Lists P us → length us ≤ min room MOST → Together room P (days us)
  no_place : (line : ℕ) → ((us : List ℕ) → Lists P us → min room MOST < length us) → Together room P (refused_at_lem (full room) line)

together_as : (room : ℕ) (P Q : ℕ → Type 0) (i : Import) → ((d : ℕ) → P d → Q d) → ((d : ℕ) → Q d → P d) → Together room P i → Together room Q i
together_as room P Q i to from (all_days us l few) =
    all_days us (record { only = λ d k. to d (l.only d k); all = λ d k. l.all d (from d k); ascends = l.ascends }) few
together_as room P Q i to from (no_place line more) =
    no_place line (λ us l. more us (record { only = λ d k. from d (l.only d k); all = λ d k. l.all d (to d k); ascends = l.ascends }))

-- an ascending list has no more days than one that has all of them
no_longer : (us xs : List ℕ) → Ascending us → Ascending xs → ((d : ℕ) → d ∈ xs → d ∈ us) → length xs ≤ length us
no_longer us [] p q h = omega arith
no_longer [] (x ∷ xs) p q h = absurd (h x (inl refl))
no_longer (u ∷ us) (x ∷ xs) p q h = go (no_longer us xs p.1 q.1) (no_longer us (x ∷ xs) p.1 q) (h x (inl refl))
  where
    later : u ≤ x → (d : ℕ) → d ∈ xs → d ∈ us
    later l d i = ⊎_elim (λ (e : d ≡ u). absurd (no e (q.0 d i))) (λ (j : d ∈ us). j) (h d (inr i))
      where
        no : d ≡ u → x < d → ⊥
        no e k = omega arith

    go : (((d : ℕ) → d ∈ xs → d ∈ us) → length xs ≤ length us) → (((d : ℕ) → d ∈ (x ∷ xs) → d ∈ us) → length (x ∷ xs) ≤ length us) → x ∈ (u ∷ us) → length (x ∷ xs) ≤ length (u ∷ us)
    go one two (inl e) = omega (arith, one (later (omega arith)))
    go one two (inr i) =
        omega (arith, two (λ d. ⊎_elim (λ (e : d ≡ x). subst (λ (k : ℕ). k ∈ us) (sym e) i) (λ (j : d ∈ xs). later (omega (arith, p.0 x i)) d j)))

outcome : (room : ℕ) (es : Course Event) (xs : List ℕ) → Whole es → Ascending xs → length xs ≤ min room MOST → Together room (λ d. (d ∈ xs) ⊎ Has es d) (gathered room es xs)
unfolding gathered on_days on_room fits
outcome room ended xs g a l =
    all_days xs (record { only = λ d i. inl i; all = λ d. ⊎_elim (λ (i : d ∈ xs). i) (λ (i : ⊥). absurd i); ascends = a }) l
outcome room (refused_at number line) xs g a l = absurd g
outcome room (next e es) xs g a l = go (leb (length (with_event e xs)) (min room MOST)) refl (outcome room es (with_event e xs) g (event_ascends e xs a))
  where
    to : (d : ℕ) → (d ∈ with_event e xs) ⊎ Has es d → (d ∈ xs) ⊎ (InEvent e d ⊎ Has es d)
    to d = ⊎_elim (λ (i : d ∈ with_event e xs). ⊎_elim (λ (j : InEvent e d). inr (inl j)) (λ (j : d ∈ xs). inl j) (event_in e xs d i)) (λ (i : Has es d). inr (inr i))

    from : (d : ℕ) → (d ∈ xs) ⊎ (InEvent e d ⊎ Has es d) → (d ∈ with_event e xs) ⊎ Has es d
    from d = ⊎_elim (λ (i : d ∈ xs). inl (event_keeps e xs d i)) (⊎_elim (λ (j : InEvent e d). inl (event_has e xs d j)) (λ (j : Has es d). inr j))

    over : min room MOST < length (with_event e xs) → (us : List ℕ) → Lists (λ d. (d ∈ xs) ⊎ (InEvent e d ⊎ Has es d)) us → min room MOST < length us
    over h us q =
        omega (arith, no_longer us (with_event e xs) q.ascends (event_ascends e xs a) (λ d i. q.all d (to d (inl i))))

    go : (b : Bool) → leb (length (with_event e xs)) (min room MOST) ≡ b → (length (with_event e xs) ≤ min room MOST → Together room (λ d. (d ∈ with_event e xs) ⊎ Has es d) (gathered room es (with_event e xs))) → Together room (λ d. (d ∈ xs) ⊎ (InEvent e d ⊎ Has es d)) (on_room b room e.line (with_event e xs) (gathered room es))
    go true q on = together_as room _ _ _ to from (on (leb-true (length (with_event e xs)) (min room MOST) q))
    go false q on = no_place e.line (over (leb-false (length (with_event e xs)) (min room MOST) q))

-- ---- courses one behind the other, and with other line numbers
behind_whole : (es r : Course Event) → Whole es → Whole r → Whole (behind es r)
unfolding behind
behind_whole ended r g h = h
behind_whole (refused_at number line) r g h = g
behind_whole (next e es) r g h = behind_whole es r g h

behind_has : (es r : Course Event) (d : ℕ) → Whole es → Has (behind es r) d → Has es d ⊎ Has r d
unfolding behind
behind_has ended r d g h = inr h
behind_has (refused_at number line) r d g h = absurd g
behind_has (next e es) r d g (inl i) = inl (inl i)
behind_has (next e es) r d g (inr i) = ⊎_elim (λ (j : Has es d). inl (inr j)) (λ (j : Has r d). inr j) (behind_has es r d g i)

has_behind : (es r : Course Event) (d : ℕ) → Whole es → Has es d ⊎ Has r d → Has (behind es r) d
unfolding behind
has_behind ended r d g (inl i) = absurd i
has_behind ended r d g (inr i) = i
has_behind (refused_at number line) r d g h = absurd g
has_behind (next e es) r d g (inl (inl i)) = inl i
has_behind (next e es) r d g (inl (inr i)) = inr (has_behind es r d g (inl i))
has_behind (next e es) r d g (inr i) = inr (has_behind es r d g (inr i))

behind_ended : (es : Course Event) → behind es ended ≡ es
unfolding behind
behind_ended ended = refl
behind_ended (refused_at number line) = refl
behind_ended (next e es) = ap (next e) (behind_ended es)

module _ (f : ℕ → ℕ) where
  whole_as : (es : Course Event) → Whole es → Whole (events_as f es)
  unfolding events_as
  whole_as ended g = g
  whole_as (refused_at number line) g = g
  whole_as (next e es) g = whole_as es g

  has_as : (es : Course Event) (d : ℕ) → Has es d → Has (events_as f es) d
  unfolding events_as
  has_as ended d h = h
  has_as (refused_at number line) d h = h
  has_as (next e es) d (inl i) = inl i
  has_as (next e es) d (inr i) = inr (has_as es d i)

  as_has : (es : Course Event) (d : ℕ) → Has (events_as f es) d → Has es d
  unfolding events_as
  as_has ended d h = h
  as_has (refused_at number line) d h = h
  as_has (next e es) d (inl i) = inl i
  as_has (next e es) d (inr i) = inr (as_has es d i)

-- which line is the last matters to refusals alone
any_last : (last last' : ℕ) (ls : List Line) → Whole (events_from (nested_from last' ls []) blank) → events_from (nested_from last ls []) blank ≡ events_from (nested_from last' ls []) blank
unfolding nested_from at_end events_from
any_last last last' ls g =
    ap (λ (k : List Line). events_from (nested_from last k []) blank) (sym (append-nil ls))
    ∙ lines_behind last last' [] ls [] blank (λ i. refl) g
    ∙ behind_ended (events_from (nested_from last' ls []) blank)

-- ---- two files: the first ends its last line, the second has no mark of byte order in front
module _ (t b : Bytes) (no_mark : without_mark b ≡ b) (x : Accepted (t ++ (LF ∷ []))) (y : Accepted b) where
  abbrev a : Bytes
  a = t ++ (LF ∷ [])

  -- the second file's lines by themselves
  record Second : Type 0 where
    starts : continued (physical b) ≡ []
    lines : lines_from 1 (physical b) ≡ lines_of b

  second_of : (c : ℕ) (s : Bytes) → b ≡ c ∷ s → Second
  unfolding continued onto lines_from unless
  second_of c s e =
      let lines_are : lines_of b ≡ record { number = 1; bytes = first_line (physical b) ++ continued (later_lines (physical b)) } ∷ lines_from 2 (later_lines (physical b)) = ap lines_of e ∙ file_lines c s ∙ ap (λ (k : Bytes). record { number = 1; bytes = first_line (physical k) ++ continued (later_lines (physical k)) } ∷ lines_from 2 (later_lines (physical k))) (ap without_mark (sym e) ∙ no_mark) in
      let one : physical b ≡ first_line (physical b) ∷ later_lines (physical b) = ap physical e ∙ some_line c s ∙ ap (λ (k : Bytes). first_line (physical k) ∷ later_lines (physical k)) (sym e) in
      let new : continues (first_line (physical b)) ≡ false = first_starts (last_of (lines_of b)) 1 (first_line (physical b)) (continued (later_lines (physical b))) (lines_from 2 (later_lines (physical b))) (subst (λ (k : List Line). Whole (events_from (nested_from (last_of (lines_of b)) k []) blank)) lines_are y.whole) in
      record {
        starts = ap continued one ∙ ap (λ (z : Bool). onto z (first_line (physical b)) (continued (later_lines (physical b)))) new;
        lines = ap (lines_from 1) one ∙ ap (λ (z : Bool). unless z (record { number = 1; bytes = first_line (physical b) ++ continued (later_lines (physical b)) }) (lines_from 2 (later_lines (physical b)))) new ∙ sym lines_are;
      }

  second : Second
  second = go b refl
    where
      go : (k : Bytes) → b ≡ k → Second
      go [] e = let bad : ⊥ = omega (arith, y.sized.0, ap length e) in absurd bad
      go (c ∷ s) e = second_of c s e

  -- how many lines the first file has
  abbrev count : ℕ
  count = length (physical a)

  all_lines : lines_of (a ++ b) ≡ lines_of a ++ lines_as (further count) (lines_of b)
  unfolding lines_of
  all_lines =
      ap (λ (k : Bytes). unfolded (unmarked (physical k))) (append_assoc t (LF ∷ []) b)
      ∙ ap (λ (k : List Bytes). unfolded (unmarked k)) (physical_behind t b)
      ∙ go (physical a) (lines_some t)
    where
      go : (pa : List Bytes) → 1 ≤ length pa → unfolded (unmarked (pa ++ physical b)) ≡ unfolded (unmarked pa) ++ lines_as (further (length pa)) (unfolded (unmarked (physical b)))
      go [] h = let bad : ⊥ = omega arith in absurd bad
      go (l ∷ ls) h =
          let e : 2 + length ls ≡ 1 + suc (length ls) = omega arith in
          unfolded_behind (physical b) second.starts l ls
          ∙ ap (λ (k : List Line). unfolded (unmarked (l ∷ ls)) ++ k) (ap (λ (n : ℕ). lines_from n (physical b)) e ∙ lines_further (suc (length ls)) 1 (physical b) ∙ ap (lines_as (further (suc (length ls)))) second.lines)

  second_events : (last : ℕ) → events_from (nested_from last (lines_as (further count) (lines_of b)) []) blank ≡ events_as (further count) (events_of b)
  second_events last =
      let f = further count in
      let k : ℕ = last_of (lines_of b) in
      let q : events_from (nested_from (f k) (lines_as f (lines_of b)) []) blank ≡ events_as f (events_of b) = ap (λ (c : Course Placed). events_from c blank) (nested_from_as f k (lines_of b) []) ∙ events_from_as f (nested_from k (lines_of b) []) blank ∙ ap (events_as f) y.says in
      any_last last (f k) (lines_as f (lines_of b)) (subst (λ (c : Course Event). Whole c) (sym q) (whole_as f (events_of b) (subst (λ (c : Course Event). Whole c) y.says y.whole))) ∙ q

  not_blank_together : (ls ms : List Line) → all_blank ls ≡ false → all_blank (ls ++ ms) ≡ false
  unfolding all_blank
  not_blank_together [] ms h = absurd (false≢true (sym h))
  not_blank_together (l ∷ ls) ms h = go (is_blank l.bytes) (not_blank_together ls ms) h
    where
      go : (z : Bool) → (all_blank ls ≡ false → all_blank (ls ++ ms) ≡ false) → (z && all_blank ls) ≡ false → (z && all_blank (ls ++ ms)) ≡ false
      go true on q = on q
      go false on q = refl

  events_together : events_of (a ++ b) ≡ behind (events_of a) (events_as (further count) (events_of b))
  unfolding events_of events nested pick
  events_together =
      let la : List Line = lines_of a in
      let lb : List Line = lines_as (further count) (lines_of b) in
      ap (λ (k : List Line). events_from (nested k) blank) all_lines
      ∙ ap (λ (z : Bool). events_from (pick z (refused_at ICAL (last_of (la ++ lb))) (nested_from (last_of (la ++ lb)) (la ++ lb) [])) blank) (not_blank_together la lb x.not_blank)
      ∙ lines_behind (last_of (la ++ lb)) (last_of la) lb la [] blank (λ i. refl) x.whole
      ∙ ap (λ (c : Course Event). behind c (events_from (nested_from (last_of (la ++ lb)) lb []) blank)) x.says
      ∙ ap (behind (events_of a)) (second_events (last_of (la ++ lb)))

size_there : (room : ℕ) (a b : Bytes) → 1 ≤ length a → length a + length b ≤ 65536 → pick (size_ok (length (a ++ b))) (gathered room (events (nested (lines_of (a ++ b)))) []) (refused_at_lem ICAL 0) ≡ gathered room (events_of (a ++ b)) []
unfolding pick events_of
size_there room a b h l =
    let n : 1 ≤ length (a ++ b) = omega (arith, length-append a b) in
    let m : length (a ++ b) ≤ 65536 = omega (arith, length-append a b) in
    rw (le-leb 1 (length (a ++ b)) n, le-leb (length (a ++ b)) 65536 m)

-- the union, or 23 or 14 where it has no place; and these only then
pub two_files : (t b : Bytes) (room ra rb : ℕ) (ds es : List ℕ) → without_mark b ≡ b → length (t ++ (LF ∷ [])) + length b ≤ 65536 → import_of (t ++ (LF ∷ [])) ra ≡ days ds → import_of b rb ≡ days es → Together room (λ d. (d ∈ ds) ⊎ (d ∈ es)) (import_of ((t ++ (LF ∷ [])) ++ b) room)
unfolding import_of pick
two_files t b room ra rb ds es no_mark size p q =
    subst (Together room (λ d. (d ∈ ds) ⊎ (d ∈ es))) (sym sized) (together_as room _ _ _ to from (outcome room (behind (events_of a) late) [] (behind_whole (events_of a) late whole_a whole_late) tt (omega arith)))
  where
    a : Bytes
    a = t ++ (LF ∷ [])

    x : Accepted a
    x = accepted a ra ds p

    y : Accepted b
    y = accepted b rb es q

    late : Course Event
    late = events_as (further (length (physical a))) (events_of b)

    whole_a : Whole (events_of a)
    whole_a = subst (λ (c : Course Event). Whole c) x.says x.whole

    whole_late : Whole late
    whole_late = whole_as _ (events_of b) (subst (λ (c : Course Event). Whole c) y.says y.whole)

    sized : pick (size_ok (length (a ++ b))) (gathered room (events (nested (lines_of (a ++ b)))) []) (refused_at_lem ICAL 0) ≡ gathered room (behind (events_of a) late) []
    sized = size_there room a b (omega (arith, x.sized.0)) size ∙ ap (λ (c : Course Event). gathered room c []) (events_together t b no_mark x y)

    to : (d : ℕ) → (d ∈ []) ⊎ Has (behind (events_of a) late) d → (d ∈ ds) ⊎ (d ∈ es)
    to d = ⊎_elim (λ (i : ⊥). absurd i) (λ (i : Has (behind (events_of a) late) d). ⊎_elim (λ (j : Has (events_of a) d). inl ((the_set a ra ds p).all d j)) (λ (j : Has late d). inr ((the_set b rb es q).all d (as_has _ (events_of b) d j))) (behind_has (events_of a) late d whole_a i))

    from : (d : ℕ) → (d ∈ ds) ⊎ (d ∈ es) → (d ∈ []) ⊎ Has (behind (events_of a) late) d
    from d = ⊎_elim (λ (i : d ∈ ds). inr (has_behind (events_of a) late d whole_a (inl ((the_set a ra ds p).only d i)))) (λ (i : d ∈ es). inr (has_behind (events_of a) late d whole_a (inr (has_as _ (events_of b) d ((the_set b rb es q).only d i)))))
