-- Laws of the walk over the lines: one for each way through the code.
-- Assumes nothing.
use Prim.Native.Nat.{ℕ, zero, suc, ◌+◌, ◌-◌, ◌≤◌, ◌<◌}
use mathlib.Core.Path.{◌≡◌, refl, sym, ap, ◌∙◌}
use mathlib.Core.Bool.{Bool, true, false, not, ◌&&◌, ◌||◌}
use lib.Dec.{eqb, leb}
use borrow.Author.Tests.{eq-eqb, ne_eqb, eqb-true, eqb-false, leb-true}
use Rattle.refusal.specs.Laws.Answers.{both}
use mathlib.Core.List.{List, [], ◌∷◌}
use native.Mathlib.Omega.{arith}
use lib.ListN.{length, drop, drop_of_length-le, length-drop, get_or, take, replicate}
use borrow.Author.Rules.{rules}
use Rattle.std.specs.Prelude.{None, Result, Ok, Err}
use Rattle.refusal.specs.declared.Refusal.{Refusal}
use Rattle.refusal.specs.declared.Refusal.TheVariants.{Ical}
use Rattle.refusal.specs.Refusals.{number_of}
use Rattle.holidays.specs.declared.Fault.{Fault}
use Rattle.std.specs.List.{starts_with}
use lib.Pointwise.{pointwise}
use Rattle.std.proofs.lemmas.List.{length-replicate}
use Rattle.holidays.specs.declared.lines.Place.{Place}
use Rattle.holidays.specs.declared.turns.State.{State}
use Rattle.holidays.specs.Words.{Bytes, pick, equal}
use Rattle.holidays.specs.Lines.{Line, without_mark, lines_of}
use Rattle.holidays.specs.Nesting.{Parts, is_blank, all_blank, last_of, at_end, nested_from}
use Rattle.holidays.specs.Laws.Exactly.{Here, goes, stops, blank_turn_of, turn_of, on_turn, answers, turned, START}
use Rattle.holidays.specs.Laws.Turns.{from_here, at_start, only_blank}
use Rattle.holidays.specs.Laws.Walk.{on_cut, walk, cut_shorter, file_walked}
use Rattle.holidays.specs.Laws.Days.{none_set}
use Rattle.holidays.specs.Laws.Nest.{parts_long}
use Rattle.holidays.specs.Inner.Cut.{cut_from}
use Rattle.holidays.specs.Import.{Import, days, refused_at_lem, gathered, size_ok, import_of}
use Rattle.holidays.specs.Events.{Draft, blank, events_from}
use Rattle.refusal.specs.Answer.{ICAL}
use Rattle.holidays.proofs.WordWays.{taken, left}
use Rattle.holidays.specs.Inner.Along.{cut_at, ahead, Before, Skipped}
use Rattle.holidays.specs.Inner.Days.{DAYS, WORDS, days_of}
use Rattle.holidays.specs.Inner.Parts.{parts_of, NestIsOk}
use Rattle.holidays.specs.Inner.Digits.{IsSmall}
use Rattle.holidays.specs.Inner.Events.{said_of}
use Rattle.holidays.specs.Inner.Turns.{draft_of, here_of, turn_shows, Nested, Keeps, TurnState, IsTurnState, Turned}
use Rattle.holidays.specs.Inner.Walking.{Advances, LineState, IsLineState, Lined, whole, Walking, ended_shows, finished, Finishes, IsEndedCount, Walks, Starts}

-- ---- on to the next line
pub advances : {file : Bytes} {s : State} {p : Place} → Skipped file s.place.at s.place.line p → Advances file s (record { place = p; depth = s.depth; event = s.event; start = s.start; stop = s.stop; count = s.count })
advances k =
    record {
      behind = record { rest = k.rest; number = k.number; before = k.before; later = k.later };
      depth = refl;
      event = refl;
      start = refl;
      stop = refl;
      count = refl;
    }

pub ruleset advancing = (advances, rules)

-- the same state stands for the same
same_here : (file stack xs : List ℕ) (s r : State) → Advances file s r → here_of file stack xs r ≡ here_of file stack xs s
same_here file stack xs s r a = rw (a.depth, a.start, a.stop)

later_nested : {file stack : List ℕ} {depth : ℕ} {event : Bool} {at : ℕ} (i : ℕ) → Nested file stack depth event at → at ≤ i → i ≤ length file → Nested file stack depth event i
later_nested i n l h = record { nest = n.nest; places = n.places; deep = omega (arith, n.deep); long = n.long; inside = h }

keeps_on : (file stack : List ℕ) (room : ℕ) (map : List ℕ) (s r : State) → Advances file s r → Keeps file stack room map s → Keeps file stack room map r
keeps_on file stack room map s r a k =
    record {
      nested = rw (a.depth, a.event) (later_nested r.place.at k.nested a.behind.later a.behind.before.inside);
      counted = rw a.count k.counted;
      few = rw a.start k.few;
    }

module _ (file : Bytes) (st : State) (stack : List ℕ) (room : ℕ) (map : List ℕ) (k : Keeps file stack room map st) {b : Bool} (q : b ≡ is_blank (ahead file st.place.at st.place.line)) where
  pub line_blank : {r : State} → b ≡ true → Advances file st r → Lined file st stack room map (Ok r) stack map
  unfolding turn_shows turn_of blank_turn_of IsLineState
  line_blank {r} e a =
      record {
        same = ap goes (same_here file stack (days_of map) st r a) ∙ sym (rw (sym q ∙ e));
        kept = record { behind = a.behind; keeps = keeps_on file stack room map st r a k };
      }

  pub line_text : b ≡ false → is_blank (ahead file st.place.at st.place.line) ≡ false
  line_text e = sym q ∙ e

module _ (file : Bytes) (st : State) (stack : List ℕ) (room : ℕ) (map : List ℕ) {t : Result State Refusal} {stack' map' : List ℕ} (u : Turned file st stack room map t stack' map') where
  pub line_stops : (n : Refusal) → t ≡ Err n → Lined file st stack room map (Err n) stack' map'
  unfolding IsLineState
  line_stops n e = record { same = ap (turn_shows file stack' (days_of map')) (sym e) ∙ u.same; kept = tt }

  goes_on : (s : State) → t ≡ Ok s → TurnState file stack' room map' st s
  unfolding IsTurnState
  goes_on s e = rw e at u.kept

  pub line_before : (s : State) → t ≡ Ok s → Before file s.place.at s.place.line
  line_before s e = (goes_on s e).inside.before

  pub line_goes : (s : State) {r : State} → t ≡ Ok s → Advances file s r → Lined file st stack room map (Ok r) stack' map'
  unfolding turn_shows IsLineState
  line_goes s {r} e a =
      let g = goes_on s e in
      let h = a.behind in
      record {
        same = ap goes (same_here file stack' (days_of map') s r a) ∙ ap (turn_shows file stack' (days_of map')) (sym e) ∙ u.same;
        kept = record {
          behind = record { rest = sym g.inside.rest ∙ h.rest; number = sym g.inside.number ∙ h.number; before = h.before; later = omega (arith, g.inside.later, h.later) };
          keeps = keeps_on file stack' room map' s r a g.keeps;
        };
      }

pub ruleset line_ways = (line_blank, line_text, line_stops, line_before, line_goes, rules)

-- ---- the end of the file
module _ (depth : ℕ) (seen : Bool) (line count : ℕ) where
  pub finish_days : depth ≡ 0 → seen ≡ true → Finishes depth seen line count (Ok count)
  unfolding finished
  finish_days e f = record { same = taken _ _ _ (rw (eq-eqb depth 0 e, f)) }

  pub finish_blank : seen ≡ false → Finishes depth seen line count (Err (record { refusal = Ical; line = line }))
  unfolding finished
  finish_blank f = record { same = left _ _ _ (go (eqb depth 0) seen f) }
    where
      go : (x y : Bool) → y ≡ false → (x && y) ≡ false
      go true y e = e
      go false y e = refl

  pub finish_open : (depth ≡ 0 → ⊥) → Finishes depth seen line count (Err (record { refusal = Ical; line = line }))
  unfolding finished
  finish_open n = record { same = left _ _ _ (rw (ne_eqb depth 0 n)) }

pub saw_so : (seen blank : Bool) → seen ≡ true → true ≡ (seen || not blank)
saw_so seen blank e = rw e

pub saw_new : (seen blank : Bool) → seen ≡ false → not blank ≡ (seen || not blank)
saw_new seen blank e = rw e

pub ruleset finish_ways = (finish_days, finish_blank, finish_open, saw_so, saw_new, rules)

-- ---- one line and those behind it
last_more : (l m : Line) (ls : List Line) → last_of (l ∷ m ∷ ls) ≡ last_of (m ∷ ls)
unfolding last_of
last_more l m ls = refl

blank_turn : (room : ℕ) (l : Line) (h : Here) → is_blank l.bytes ≡ true → turn_of room l h ≡ goes h
unfolding turn_of blank_turn_of
blank_turn room l h e = rw e

never_goes : {A : Type 0} (h : Here) (n : ℕ) → goes h ≡ stops n → A
never_goes h n e = let z : ◌≡◌ {A = ℕ} 0 1 = cc in let bad : ⊥ = omega arith in absurd bad

-- a line that stops is the answer
whole_stops : (room : ℕ) (seen : Bool) (l : Line) (ls : List Line) (h : Here) (n : ℕ) → turn_of room l h ≡ stops n → whole room seen (l ∷ ls) h ≡ refused_at_lem n l.number
unfolding whole all_blank pick on_turn
whole_stops room seen l ls h n e = go seen (is_blank l.bytes) (all_blank ls) refl
  where
    said : answers room (last_of (l ∷ ls)) (l ∷ ls) h ≡ refused_at_lem n l.number
    said = turned room (last_of (l ∷ ls)) l ls h ∙ rw e

    go : (x y z : Bool) → is_blank l.bytes ≡ y → pick (not x && (y && z)) (refused_at_lem ICAL (last_of (l ∷ ls))) (answers room (last_of (l ∷ ls)) (l ∷ ls) h) ≡ refused_at_lem n l.number
    go true y z b = said
    go false true z b = never_goes h n (sym (blank_turn room l h b) ∙ e)
    go false false z b = said

-- a line that goes on leaves the answer to those behind it
whole_goes : (room : ℕ) (seen : Bool) (l m : Line) (ls : List Line) (h i : Here) → turn_of room l h ≡ goes i → whole room seen (l ∷ m ∷ ls) h ≡ whole room (seen || not (is_blank l.bytes)) (m ∷ ls) i
unfolding whole all_blank pick on_turn
whole_goes room seen l m ls h i e = go seen (is_blank l.bytes) (is_blank m.bytes && all_blank ls)
  where
    said : answers room (last_of (l ∷ m ∷ ls)) (l ∷ m ∷ ls) h ≡ answers room (last_of (m ∷ ls)) (m ∷ ls) i
    said = turned room (last_of (l ∷ m ∷ ls)) l (m ∷ ls) h ∙ rw e (ap (λ (k : ℕ). answers room k (m ∷ ls) i) (last_more l m ls))

    go : (x y z : Bool) → pick (not x && (y && z)) (refused_at_lem ICAL (last_of (l ∷ m ∷ ls))) (answers room (last_of (l ∷ m ∷ ls)) (l ∷ m ∷ ls) h) ≡ pick (not (x || not y) && z) (refused_at_lem ICAL (last_of (m ∷ ls))) (answers room (last_of (m ∷ ls)) (m ∷ ls) i)
    go true y z = said
    go false true true = ap (λ (k : ℕ). refused_at_lem ICAL k) (last_more l m ls)
    go false true false = said
    go false false z = said

-- the last line
whole_last : (room : ℕ) (seen : Bool) (l : Line) (h i : Here) → turn_of room l h ≡ goes i → whole room seen (l ∷ []) h ≡ pick (not (seen || not (is_blank l.bytes))) (refused_at_lem ICAL l.number) (answers room l.number [] i)
unfolding whole all_blank pick on_turn last_of
whole_last room seen l h i e = go seen (is_blank l.bytes)
  where
    said : answers room l.number (l ∷ []) h ≡ answers room l.number [] i
    said = turned room l.number l [] h ∙ rw e

    go : (x y : Bool) → pick (not x && (y && true)) (refused_at_lem ICAL l.number) (answers room l.number (l ∷ []) h) ≡ pick (not (x || not y)) (refused_at_lem ICAL l.number) (answers room l.number [] i)
    go true y = said
    go false true = refl
    go false false = said

at_close : (room line : ℕ) (ps : Parts) (w : Draft) (xs : List ℕ) → answers room line [] (record { parts = ps; draft = w; dates = xs }) ≡ pick (eqb (length ps) 0) (days xs) (refused_at_lem ICAL line)
unfolding answers from_here nested_from at_end events_from gathered pick
at_close room line [] w xs = refl
at_close room line (p ∷ ps) w xs = sym (ap (λ (b : Bool). pick b (days xs) (refused_at_lem ICAL line)) (ne_eqb (suc (length ps)) 0 (λ z. omega (arith, z))))

module _ {file : Bytes} {room : ℕ} {stack map : List ℕ} {st : State} {seen : Bool} (g : Walking file room stack map st seen) where
  abbrev line_now : Line
  line_now = record { number = st.place.line; bytes = ahead file st.place.at st.place.line }

  abbrev here_now : Here
  here_now = here_of file stack (days_of map) st

  pub walking_before : Before file st.place.at st.place.line
  walking_before = g.before

  pub walking_keeps : Keeps file stack room map st
  walking_keeps = g.keeps

  module _ {t : Result State Refusal} {stack' map' : List ℕ} (u : Lined file st stack room map t stack' map') where
    pub walking_stops : (n : Refusal) → t ≡ Err n → Walks file room (Err (record { refusal = n; line = st.place.line })) map'
    unfolding ended_shows IsEndedCount on_cut turn_shows
    walking_stops n e =
        record {
          same = g.same ∙ whole_stops room seen line_now _ here_now (number_of n) (sym u.same ∙ ap (turn_shows file stack' (days_of map')) e);
          counted = tt;
        }

    module _ (s : State) (e : t ≡ Ok s) {b : Bool} (q : b ≡ is_blank (ahead file st.place.at st.place.line)) {now : Bool} (w : now ≡ (seen || not b)) where
      on : LineState file stack' room map' st s
      unfolding IsLineState
      on = rw e at u.kept

      goes_so : turn_of room line_now here_now ≡ goes (here_of file stack' (days_of map') s)
      unfolding turn_shows
      goes_so = sym u.same ∙ ap (turn_shows file stack' (days_of map')) e

      rest_so : walk g.fuel (cut_at file st.place.at st.place.line).number (cut_at file st.place.at st.place.line).rest ≡ walk g.fuel s.place.line (drop s.place.at file)
      rest_so = rw (on.behind.number, on.behind.rest)

      now_so : now ≡ (seen || not (is_blank line_now.bytes))
      now_so = w ∙ ap (λ (x : Bool). seen || not x) q

      all_so : import_of file room ≡ whole room seen (line_now ∷ walk g.fuel s.place.line (drop s.place.at file)) here_now
      unfolding on_cut
      all_so = g.same ∙ ap (λ (ls : List Line). whole room seen (line_now ∷ ls) here_now) rest_so

      pub walking_done : {r : Result ℕ Fault} → s.place.at ≡ length file → Finishes s.depth now st.place.line s.count r → Walks file room r map'
      unfolding ended_shows IsEndedCount finished pick walk
      walking_done {r} z f =
          let le : length file ≤ s.place.at = omega (arith, z) in
          let d : drop s.place.at file ≡ [] = drop_of_length-le file le in
          let a : import_of file room ≡ pick (not now) (refused_at_lem ICAL st.place.line) (pick (eqb s.depth 0) (days (days_of map')) (refused_at_lem ICAL st.place.line)) =
          all_so
          ∙ ap (λ (ls : List Line). whole room seen (line_now ∷ ls) here_now) (ap (walk g.fuel s.place.line) d ∙ no_more g.fuel)
          ∙ whole_last room seen line_now here_now (here_of file stack' (days_of map') s) goes_so
          ∙ ap (λ (x : Bool). pick (not x) (refused_at_lem ICAL st.place.line) (answers room st.place.line [] (here_of file stack' (days_of map') s))) (sym now_so)
          ∙ ap (λ (i : Import). pick (not now) (refused_at_lem ICAL st.place.line) i) (at_close room st.place.line (parts_of file stack' s.depth) (draft_of s) (days_of map') ∙ ap (λ (k : ℕ). pick (eqb k 0) (days (days_of map')) (refused_at_lem ICAL st.place.line)) (parts_long file stack' s.depth)) in
          go (eqb s.depth 0) now a f.same
        where
          no_more : (fuel : ℕ) → walk fuel s.place.line [] ≡ []
          no_more zero = refl
          no_more (suc fuel) = refl

          go : (x y : Bool) → import_of file room ≡ pick (not y) (refused_at_lem ICAL st.place.line) (pick x (days (days_of map')) (refused_at_lem ICAL st.place.line)) → r ≡ pick (x && y) (Ok s.count) (Err (record { refusal = Ical; line = st.place.line })) → Walks file room r map'
          go true true h o = rw o (record { same = h; counted = on.keeps.counted })
          go true false h o = rw o (record { same = h; counted = tt })
          go false true h o = rw o (record { same = h; counted = tt })
          go false false h o = rw o (record { same = h; counted = tt })

      -- a byte at least was taken, so there is fuel for the next line
      longer : (s.place.at ≡ length file → ⊥) → st.place.at < s.place.at
      unfolding cut_from
      longer z = go (drop st.place.at file) refl
        where
          go : (t : Bytes) → drop st.place.at file ≡ t → st.place.at < s.place.at
          go [] d =
              let r : (cut_at file st.place.at st.place.line).rest ≡ [] = ap (λ (x : Bytes). (cut_from false st.place.line x).rest) d in
              let l : length (drop s.place.at file) ≡ 0 = ap length (sym on.behind.rest ∙ r) in
              let bad : ⊥ = z (omega (arith, length-drop s.place.at file, l, on.behind.before.inside)) in
              absurd bad
          go (c ∷ t) d =
              let r : (cut_at file st.place.at st.place.line).rest ≡ (cut_from false st.place.line (c ∷ t)).rest = ap (λ (x : Bytes). (cut_from false st.place.line x).rest) d in
              let l : length (drop s.place.at file) ≡ length (cut_from false st.place.line (c ∷ t)).rest = ap length (sym on.behind.rest ∙ r) in
              omega (arith, cut_shorter st.place.line c t, l, length-drop s.place.at file, length-drop st.place.at file, ap length d, on.behind.before.inside, g.before.inside)

      pub walking_less : (s.place.at ≡ length file → ⊥) → length file - s.place.at < length file - st.place.at
      walking_less z = omega (arith, longer z, on.behind.before.inside)

      pub walking_on : (s.place.at ≡ length file → ⊥) → Walking file room stack' map' s now
      unfolding walk on_cut
      walking_on z = step g.fuel refl
        where
          more : (n : ℕ) (t : Bytes) → (length t ≡ 0 → ⊥) → (fuel : ℕ) → walk (suc fuel) n t ≡ on_cut n (cut_from false n t) (walk fuel)
          more n [] h fuel = absurd (h refl)
          more n (c ∷ t) h fuel = refl

          some : length (drop s.place.at file) ≡ 0 → ⊥
          some h = z (omega (arith, length-drop s.place.at file, h, on.behind.before.inside))

          step : (fuel : ℕ) → g.fuel ≡ fuel → Walking file room stack' map' s now
          step zero e = let bad : ⊥ = omega (arith, g.enough, e, longer z, on.behind.before.inside) in absurd bad
          step (suc fuel) e =
              record {
                fuel = fuel;
                enough = omega (arith, g.enough, e, longer z);
                same = all_so ∙ ap (λ (k : ℕ). whole room seen (line_now ∷ walk k s.place.line (drop s.place.at file)) here_now) e ∙ ap (λ (ls : List Line). whole room seen (line_now ∷ ls) here_now) (more s.place.line (drop s.place.at file) some fuel) ∙ whole_goes room seen line_now _ _ here_now (here_of file stack' (days_of map') s) goes_so ∙ ap (λ (x : Bool). whole room x (on_cut s.place.line (cut_at file s.place.at s.place.line) (walk fuel)) (here_of file stack' (days_of map') s)) (sym now_so);
                before = on.behind.before;
                keeps = on.keeps;
              }

pub ruleset walk_ways = (walking_before, walking_keeps, walking_stops, walking_done, walking_less, walking_on, rules)

-- ---- the start
eqb_swap : (a b : ℕ) → eqb a b ≡ eqb b a
eqb_swap a b = go (eqb b a) refl
  where
    go : (x : Bool) → eqb b a ≡ x → eqb a b ≡ x
    go true e = eq-eqb a b (sym (eqb-true b a e))
    go false e = ne_eqb a b (λ z. eqb-false b a e (sym z))

same_bytes : (l m : Bytes) → pointwise eqb l m ≡ equal m l
unfolding equal
same_bytes [] [] = refl
same_bytes [] (c ∷ m) = refl
same_bytes (b ∷ l) [] = refl
same_bytes (b ∷ l) (c ∷ m) = rw (eqb_swap b c, same_bytes l m)

module _ (file : Bytes) {r : Bool} (p : r ≡ starts_with eqb file (239 ∷ 187 ∷ 191 ∷ [])) where
  marked : r ≡ equal (take 3 file) (239 ∷ 187 ∷ 191 ∷ [])
  marked = p ∙ same_bytes (239 ∷ 187 ∷ 191 ∷ []) (take 3 file)

  pub start_mark : r ≡ true → 3 ≤ length file → Starts file 3
  unfolding without_mark
  start_mark e h = record { same = sym (taken _ _ _ (sym marked ∙ e)); inside = h }

  pub start_none : r ≡ false → Starts file 0
  unfolding without_mark
  start_none e = record { same = sym (left _ _ _ (sym marked ∙ e)); inside = omega arith }

pub ruleset start_ways = (start_mark, start_none, rules)

-- ---- zeros
zeros_so : (n i : ℕ) → get_or {A = ℕ} (replicate n 0) i 0 ≡ 0
zeros_so zero i = refl
zeros_so (suc n) zero = refl
zeros_so (suc n) (suc i) = zeros_so n i

-- ---- at the first line
module _ (file : Bytes) (room : ℕ) (stack map₀ map : List ℕ) (size : size_ok (length file) ≡ true) (slots : length stack ≡ 10923) (words : length map₀ ≡ WORDS) (c : map ≡ replicate (length map₀) 0) {r : ℕ} (s : Starts file r) where
  no_days_yet : days_of map ≡ []
  unfolding days_of
  no_days_yet = none_set DAYS 0 map (λ i. ap (λ (m : List ℕ). get_or m i 0) c ∙ zeros_so (length map₀) i)

  all_lines : import_of file room ≡ whole room false (lines_of file) START
  unfolding whole pick answers
  all_lines = go (all_blank (lines_of file)) refl
    where
      go : (x : Bool) → all_blank (lines_of file) ≡ x → import_of file room ≡ pick x (refused_at_lem ICAL (last_of (lines_of file))) (answers room (last_of (lines_of file)) (lines_of file) START)
      go true e = only_blank file room size e
      go false e = at_start file room size e

  lines_so : lines_of file ≡ on_cut 1 (cut_at file r 1) (walk (suc (length file)))
  lines_so = go file refl
    where
      go : (t : Bytes) → file ≡ t → lines_of file ≡ on_cut 1 (cut_at file r 1) (walk (suc (length file)))
      go [] e = let l = both (leb 1 (length file)) (leb (length file) 65536) size in let bad : ⊥ = omega (arith, leb-true 1 (length file) l.0, ap length e) in absurd bad
      go (b ∷ t) e =
          ap lines_of e ∙ file_walked b t ∙ ap (λ (x : Bytes). on_cut 1 (cut_from false 1 x) (walk (suc (suc (length t))))) (ap without_mark (sym e) ∙ s.same) ∙ ap (λ (k : ℕ). on_cut 1 (cut_at file r 1) (walk (suc k))) (sym (ap length e))

  pub walking_start : Walking file room stack map (record { place = record { at = r; line = 1 }; depth = 0; event = false; start = None; stop = None; count = 0 }) false
  unfolding parts_of NestIsOk said_of IsSmall
  walking_start =
      let l = both (leb 1 (length file)) (leb (length file) 65536) size in
      let few : length file ≤ 65536 = leb-true (length file) 65536 l.1 in
      record {
        fuel = suc (length file);
        enough = omega arith;
        same = all_lines ∙ ap (λ (ls : List Line). whole room false ls START) lines_so ∙ ap (λ (xs : List ℕ). whole room false (on_cut 1 (cut_at file r 1) (walk (suc (length file)))) (record { parts = []; draft = blank; dates = xs })) (sym no_days_yet);
        before = record { inside = s.inside; short = few; low = omega arith };
        keeps = record {
          nested = record { nest = tt; places = λ k h. (let bad : ⊥ = omega arith in absurd bad); deep = omega arith; long = slots; inside = s.inside };
          counted = record { count = ap length (sym no_days_yet); room_for = omega arith; long = ap length c ∙ length-replicate (length map₀) 0 ∙ words };
          few = tt;
        };
      }

pub ruleset file_ways = (walking_start, rules)
