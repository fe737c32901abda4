-- Laws of the ways through one line: one for each way through the code.
-- Assumes nothing.
use Prim.Native.Nat.{ℕ, zero, suc, ◌+◌, ◌-◌, ◌*◌, ◌≤◌, ◌<◌, min}
use mathlib.Core.Path.{◌≡◌, refl, sym, ap, ◌∙◌, subst}
use mathlib.Core.Bool.{Bool, true, false, ◌&&◌}
use mathlib.Core.List.{List}
use native.Mathlib.Omega.{arith}
use lib.Dec.{eqb}
use lib.ListN.{length, get_or, set, length-set}
use lib.Seq.{get_or-set_same, get_or-set_other}
use borrow.Author.Rules.{rules}
use borrow.Author.Tests.{eq-eqb, ne_eqb, eqb-true, eqb-false}
use Rattle.refusal.specs.Laws.Answers.{both}
use Rattle.holidays.specs.declared.turns.State.{State}
use Rattle.holidays.specs.declared.parameters.Value as found
use Rattle.std.specs.Prelude.{Option, None, Some, Result, Ok, Err}
use Rattle.refusal.specs.declared.Refusal.{Refusal}
use Rattle.refusal.specs.declared.Refusal.TheVariants.{Ical, IcalKind}
use Rattle.refusal.specs.Answer.{answered}
use Rattle.holidays.specs.declared.lines.Place.{Place}
use Rattle.holidays.specs.Words.{Bytes, pick, uppers}
use Rattle.holidays.specs.Content.{Value, value, Content, content_of, Kind, kind_in, begin, end, recurring, other, name_of}
use Rattle.holidays.specs.Nesting.{Parts, After, after, after_other, is_blank, may_end, within, broken, open_are, after_begin, after_end}
use Rattle.holidays.specs.Events.{in_event}
use Rattle.holidays.specs.Laws.Nest.{parts_long, inside_so, nest_less}
use Rattle.holidays.specs.Laws.Exactly.{Here, goes, date_turn, event_turn, inside_turn, nest_turn, line_turn, blank_turn_of, turn_of}
use Rattle.holidays.specs.Lines.{Line}
use Rattle.holidays.specs.Inner.Along.{ahead, Before, Inside}
use Rattle.holidays.specs.Inner.Parameters.{Tail, tail_of, said_at, LiesInside, LiesBefore, ReadsValue}
use Rattle.holidays.specs.Inner.Parts.{parts_of, NestIsOk, OpensAs, Opens}
use Rattle.holidays.specs.declared.words.Piece.{Piece}
use Rattle.holidays.specs.Dated.{Dated, by_value, dated}
use Rattle.holidays.specs.Laws.Pieces.{Plain, plain}
use Rattle.holidays.specs.Laws.Names.{name_by, name_is, stays_open, begin_five, content_long}
use Rattle.holidays.specs.Inner.Letters.{packs}
use Rattle.holidays.specs.Inner.Pieces.{piece, mark_number, ReadsPiece}
use Rattle.holidays.specs.Inner.Digits.{kind_is, IsSmall, IsSmallDay}
use Rattle.holidays.specs.Inner.Days.{WORDS, days_of}
use Rattle.holidays.specs.Inner.Events.{said_of, noted_turn, Notes, closed_turn, Counted, IsClosedCount, Closes}
use Rattle.holidays.specs.Inner.Turns.{draft_of, here_of, turn_shows, Nested, IsFar, opened_turn, IsBegun, Begins, turn_with, Stays, StaysAs, line_of, StartTurns, StopTurns, EventTurns, ClosedState, IsClosedState, CloseTurns, ended_turn, IsEndState, EndTurns, Keeps, IsTurnState, Turned}
use Rattle.holidays.proofs.EventWays.{note_place}
use Rattle.holidays.proofs.WordWays.{inside_here, inside_on}

-- ---- BEGIN
module _ (file : Bytes) (v : found.Value) (st : State) (stack : List ℕ) where
  pub begin_lost : v.place ≡ None → Begins file v st stack (Err Ical) stack
  unfolding turn_shows IsBegun opened_turn after_begin said_at
  begin_lost e = record { same = λ xs. rw e; kept = tt }

  module _ (i : Place) (f : v.place ≡ Some i) {o : Option Bool} {stack' : List ℕ} (p : Opens file i.at i.line st.depth st.event stack o stack') where
    pub begin_broken : o ≡ None → Begins file v st stack (Err Ical) stack'
    unfolding turn_shows IsBegun opened_turn said_at OpensAs
    begin_broken e =
        let q : (after_begin (value (ahead file i.at i.line)) (parts_of file stack st.depth) ≡ broken) × (stack' ≡ stack) = rw e at p.so in
        record { same = λ xs. rw (f, q.0); kept = tt }

    pub begin_goes : (b : Bool) → o ≡ Some b → LiesBefore file v.place → Nested file stack st.depth st.event st.place.at → IsFar st.depth v.place → Begins file v st stack (Ok (record { place = i; depth = st.depth + 1; event = b; start = st.start; stop = st.stop; count = st.count })) stack'
    unfolding turn_shows IsBegun opened_turn said_at OpensAs LiesBefore IsFar
    begin_goes b e lies n far =
        let inside : Before file i.at i.line = rw f at lies in
        let deep : st.depth * 6 + 6 ≤ i.at = rw f at far in
        let q : (after_begin (value (ahead file i.at i.line)) (parts_of file stack st.depth) ≡ open_are (parts_of file stack' (st.depth + 1))) × ((NestIsOk b (parts_of file stack' (st.depth + 1))) × (stack' ≡ set stack st.depth i.at)) = rw e at p.so in
        record {
          same = λ xs. rw (f, q.0);
          kept = record {
            nested = record {
              nest = q.1.0;
              places = λ k h. go inside deep q.1.1 k h (eqb k st.depth) refl;
              deep = omega (arith, deep);
              long = ap length q.1.1 ∙ length-set stack st.depth i.at ∙ n.long;
              inside = inside.inside;
            };
            place = sym f;
            count = refl;
            start = refl;
          };
        }
      where
        go : Before file i.at i.line → st.depth * 6 + 6 ≤ i.at → stack' ≡ set stack st.depth i.at → (k : ℕ) → k < st.depth + 1 → (x : Bool) → eqb k st.depth ≡ x → get_or stack' k 0 ≤ length file
        go inside deep q k h true e =
            let z : k ≡ st.depth = eqb-true k st.depth e in
            let g : get_or stack' k 0 ≡ i.at = ap (λ (s : List ℕ). get_or s k 0) q ∙ ap (λ (j : ℕ). get_or (set stack st.depth i.at) j 0) z ∙ get_or-set_same stack st.depth i.at 0 (omega (arith, n.long, deep, inside.inside, inside.short)) in
            omega (arith, g, inside.inside)
        go inside deep q k h false e =
            let z : k ≡ st.depth → ⊥ = eqb-false k st.depth e in
            let g : get_or stack' k 0 ≡ get_or stack k 0 = ap (λ (s : List ℕ). get_or s k 0) q ∙ get_or-set_other stack st.depth k i.at 0 z in
            omega (arith, g, n.places k (omega (arith, z)))

pub begin_nest : {file stack : List ℕ} {depth : ℕ} {event : Bool} {at : ℕ} → Nested file stack depth event at → NestIsOk event (parts_of file stack depth)
begin_nest n = n.nest

pub begin_room : {file stack : List ℕ} {depth : ℕ} {event : Bool} {at : ℕ} (o : Option Place) (i : Place) → Nested file stack depth event at → LiesBefore file o → IsFar depth o → o ≡ Some i → depth < length stack
unfolding LiesBefore IsFar
begin_room {file} {stack} {depth} o i n b far e =
    let inside : Before file i.at i.line = rw e at b in
    let d : depth * 6 + 6 ≤ i.at = rw e at far in
    omega (arith, n.long, inside.inside, inside.short, d)

pub ruleset begin_ways = (note_place, begin_nest, begin_room, begin_lost, begin_broken, begin_goes, rules)

-- ---- END:VEVENT
module _ (st : State) (room : ℕ) (map : List ℕ) {c : Result ℕ Refusal} {map' : List ℕ} (p : Closes st.start st.stop room map c map') where
  pub close_stops : (n : Refusal) → c ≡ Err n → CloseTurns st room map (Err n) map'
  unfolding turn_with IsClosedState closed_turn
  close_stops n e = record { same = λ line qs. sym (p.same line qs ∙ rw e); kept = tt }

  pub close_goes : (n : ℕ) → c ≡ Ok n → CloseTurns st room map (Ok (record { place = st.place; depth = 1; event = st.event; start = None; stop = None; count = n })) map'
  unfolding turn_with IsClosedState closed_turn IsClosedCount said_of IsSmall
  close_goes n e =
      record {
        same = λ line qs. sym (p.same line qs ∙ rw e);
        kept = record { place = refl; depth = refl; event = refl; counted = rw e at p.counted; few = tt };
      }

pub counted_long : {room c : ℕ} {map : List ℕ} → Counted room c map → length map ≡ WORDS
counted_long k = k.long

pub counted_count : {room c : ℕ} {map : List ℕ} → Counted room c map → c ≡ length (days_of map)
counted_count k = k.count

pub counted_room : {room c : ℕ} {map : List ℕ} → Counted room c map → c ≤ min room 4096
counted_room k = k.room_for

pub ruleset close_ways = (close_stops, close_goes, counted_long, counted_count, counted_room, rules)

-- ---- what a line says
module _ (file : Bytes) (at line : ℕ) {name : Piece} (p : ReadsPiece file at line false false name) where
  read_so : Plain 1 (piece false false 1 (ahead file at line)) (content_of (ahead file at line))
  unfolding content_of
  read_so = plain false 1 (ahead file at line)

  pub number_so : name.number ≡ packs 1 (content_of (ahead file at line)).name
  number_so = p.number ∙ read_so.number

  tail_so : tail_of (piece false false 1 (ahead file at line)).mark (piece false false 1 (ahead file at line)).rest ≡ tail_of (mark_number name.mark) (ahead file name.place.at name.place.line)
  tail_so = rw (sym p.mark, sym p.rest)

  module _ {v : found.Value} (q : ReadsValue file name.place.at name.place.line (mark_number name.mark) v) where
    pub said_so : (content_of (ahead file at line)).said ≡ said_at file v.place
    said_so = read_so.said ∙ ap (λ (t : Tail). t.said) tail_so ∙ q.said

    pub dated_so : dated (content_of (ahead file at line)) ≡ by_value (kind_is v.kind) (said_at file v.place)
    unfolding dated
    dated_so =
        ap (λ (x : Value). by_value (kind_in (content_of (ahead file at line)).parameters) x) said_so
        ∙ ap (λ (k : Kind). by_value k (said_at file v.place)) (ap kind_in (read_so.parameters ∙ ap (λ (t : Tail). t.parameters) tail_so) ∙ sym q.kind)

pub name_place : {file : Bytes} {at line : ℕ} {a b : Bool} {name : Piece} → ReadsPiece file at line a b name → Before file name.place.at name.place.line
name_place p = p.inside.before

pub lies_before : {file : Bytes} {at line mark : ℕ} {v : found.Value} → ReadsValue file at line mark v → LiesBefore file v.place
unfolding LiesInside LiesBefore
lies_before {file} {at} {line} {mark} {v} q = go v.place q.inside
  where
    go : (o : Option Place) → LiesInside file at line o → LiesBefore file o
    go None l = tt
    go (Some p) l = l.before

-- ---- DTSTART and DTEND
module _ (file : Bytes) (st : State) {name : Piece} (p : ReadsPiece file st.place.at st.place.line false false name) {v : found.Value} (q : ReadsValue file name.place.at name.place.line (mark_number name.mark) v) where
  module _ {r : Result ℕ Refusal} (n : Notes file st.start v r) where
    start_so : (on : ℕ → Here) → date_turn (said_of st.start) (dated (line_of file st)) on ≡ noted_turn (answered r) on
    start_so on = ap (λ (t : Dated). date_turn (said_of st.start) t on) (dated_so file st.place.at st.place.line p q) ∙ n.same on

    pub start_stops : (k : Refusal) → r ≡ Err k → StartTurns file st (Err k)
    unfolding turn_with StaysAs noted_turn
    start_stops k e = record { same = λ qs xs. sym (start_so _ ∙ rw e); kept = tt }

    pub start_goes : (d : ℕ) → r ≡ Ok d → StartTurns file st (Ok (record { place = st.place; depth = st.depth; event = st.event; start = Some d; stop = st.stop; count = st.count }))
    unfolding turn_with StaysAs noted_turn IsSmallDay said_of IsSmall
    start_goes d e =
        record {
          same = λ qs xs. sym (start_so _ ∙ rw e);
          kept = record { place = refl; depth = refl; event = refl; count = refl; few = rw e at n.few };
        }

  module _ {r : Result ℕ Refusal} (n : Notes file st.stop v r) where
    stop_so : (on : ℕ → Here) → date_turn (said_of st.stop) (dated (line_of file st)) on ≡ noted_turn (answered r) on
    stop_so on = ap (λ (t : Dated). date_turn (said_of st.stop) t on) (dated_so file st.place.at st.place.line p q) ∙ n.same on

    pub stop_stops : (k : Refusal) → r ≡ Err k → StopTurns file st (Err k)
    unfolding turn_with StaysAs noted_turn
    stop_stops k e = record { same = λ qs xs. sym (stop_so _ ∙ rw e); kept = tt }

    pub stop_goes : (d : ℕ) → r ≡ Ok d → IsSmall st.start → StopTurns file st (Ok (record { place = st.place; depth = st.depth; event = st.event; start = st.start; stop = Some d; count = st.count }))
    unfolding turn_with StaysAs noted_turn said_of
    stop_goes d e f =
        record {
          same = λ qs xs. sym (stop_so _ ∙ rw e);
          kept = record { place = refl; depth = refl; event = refl; count = refl; few = f };
        }

pub ruleset date_ways = (name_place, lies_before, start_stops, start_goes, stop_stops, stop_goes, rules)

-- ---- a line directly in a VEVENT
module _ (file : Bytes) (st : State) {name : Piece} (p : ReadsPiece file st.place.at st.place.line false false name) where
  name_so : name_of (line_of file st).name ≡ name_by name.number
  name_so = name_is (line_of file st).name ∙ ap name_by (sym (number_so file st.place.at st.place.line p))

  pub event_start : {r : Result State Refusal} → name.number ≡ 39346374228 → StartTurns file st r → EventTurns file st r
  unfolding event_turn name_by pick
  event_start e s = record { same = λ room line qs xs. s.same qs xs ∙ rw (name_so ∙ ap name_by e); kept = s.kept }

  pub event_stop : {r : Result State Refusal} → name.number ≡ 38409668 → StopTurns file st r → EventTurns file st r
  unfolding event_turn name_by pick
  event_stop e s = record { same = λ room line qs xs. s.same qs xs ∙ rw (name_so ∙ ap name_by e); kept = s.kept }

  recurs : name_of (line_of file st).name ≡ recurring → EventTurns file st (Err IcalKind)
  unfolding event_turn turn_with StaysAs
  recurs e = record { same = λ room line qs xs. rw e; kept = tt }

  pub event_rrule : name.number ≡ 53040517 → EventTurns file st (Err IcalKind)
  unfolding name_by pick
  event_rrule e = recurs (name_so ∙ ap name_by e)

  pub event_rdate : name.number ≡ 52561541 → EventTurns file st (Err IcalKind)
  unfolding name_by pick
  event_rdate e = recurs (name_so ∙ ap name_by e)

  pub event_exdate : name.number ≡ 1266812549 → EventTurns file st (Err IcalKind)
  unfolding name_by pick
  event_exdate e = recurs (name_so ∙ ap name_by e)

  pub event_duration : name.number ≡ 1260104852974 → EventTurns file st (Err IcalKind)
  unfolding name_by pick
  event_duration e = recurs (name_so ∙ ap name_by e)

  pub event_other : IsSmall st.start → (name.number ≡ 35822894 → ⊥) → (name.number ≡ 38340 → ⊥) → (name.number ≡ 39346374228 → ⊥) → (name.number ≡ 38409668 → ⊥) → (name.number ≡ 53040517 → ⊥) → (name.number ≡ 52561541 → ⊥) → (name.number ≡ 1266812549 → ⊥) → (name.number ≡ 1260104852974 → ⊥) → EventTurns file st (Ok st)
  unfolding event_turn turn_with StaysAs name_by pick
  event_other few a b c d e f g h =
      let o : name_of (line_of file st).name ≡ other = name_so ∙ rw (ne_eqb _ _ a, ne_eqb _ _ b, ne_eqb _ _ c, ne_eqb _ _ d, ne_eqb _ _ e, ne_eqb _ _ f, ne_eqb _ _ g, ne_eqb _ _ h) in
      record {
        same = λ room line qs xs. rw o;
        kept = record { place = refl; depth = refl; event = refl; count = refl; few = few };
      }

pub ruleset event_ways = (event_start, event_stop, event_rrule, event_rdate, event_exdate, event_duration, event_other, rules)

-- ---- END
pub inside_two : (depth : ℕ) (event : Bool) → depth ≡ 2 → event ≡ (eqb depth 2 && event)
inside_two depth event e = rw (eq-eqb depth 2 e)

pub inside_not : (depth : ℕ) (event : Bool) → (depth ≡ 2 → ⊥) → false ≡ (eqb depth 2 && event)
inside_not depth event e = rw (ne_eqb depth 2 e)

-- a state that is known to stand where the parts are qs
with_parts : (file stack : List ℕ) (xs : List ℕ) (qs : Parts) (r : Result State Refusal) → ((s : State) → r ≡ Ok s → parts_of file stack s.depth ≡ qs) → turn_shows file stack xs r ≡ turn_with qs xs r
unfolding turn_shows turn_with
with_parts file stack xs qs (Err n) h = refl
with_parts file stack xs qs (Ok s) h = ap (λ (ps : Parts). goes (record { parts = ps; draft = draft_of s; dates = xs })) (h s refl)

module _ (file : Bytes) (v : found.Value) (st : State) (stack : List ℕ) (room : ℕ) (map : List ℕ) where
  pub end_lost : v.place ≡ None → EndTurns file v st stack room map (Err Ical) map
  unfolding turn_shows IsEndState ended_turn after_end said_at
  end_lost e = record { same = λ line. rw e; kept = tt }

  module _ (i : Place) (f : v.place ≡ Some i) where
    pub end_outside : st.depth ≡ 0 → EndTurns file v st stack room map (Err Ical) map
    unfolding turn_shows IsEndState ended_turn after_end said_at may_end parts_of pick
    end_outside e = record { same = λ line. rw (f, e); kept = tt }

    module _ (some : st.depth ≡ 0 → ⊥) {b : Bool} (m : b ≡ may_end (ahead file i.at i.line) (parts_of file stack (st.depth - 1 + 1))) where
      down : st.depth - 1 + 1 ≡ st.depth
      down = omega (arith, some)

      may : may_end (ahead file i.at i.line) (parts_of file stack st.depth) ≡ b
      may = ap (λ (k : ℕ). may_end (ahead file i.at i.line) (parts_of file stack k)) (sym down) ∙ sym m

      up : suc (st.depth - 1) ≡ st.depth
      up = omega (arith, some)

      inner : within (parts_of file stack st.depth) ≡ parts_of file stack (st.depth - 1)
      unfolding within parts_of
      inner = ap (λ (k : ℕ). within (parts_of file stack k)) (sym up)

      pub end_other : b ≡ false → EndTurns file v st stack room map (Err Ical) map
      unfolding turn_shows IsEndState ended_turn after_end said_at pick
      end_other e = record { same = λ line. rw (f, may ∙ e); kept = tt }

      module _ (e : b ≡ true) where
        after_so : after_end (said_at file v.place) (parts_of file stack st.depth) ≡ open_are (parts_of file stack (st.depth - 1))
        unfolding after_end said_at pick
        after_so = rw (f, may ∙ e, inner)

        module _ (n : Nested file stack st.depth st.event st.place.at) {two_in : Bool} (inside : two_in ≡ (eqb st.depth 2 && st.event)) where
          inside_is : in_event (parts_of file stack st.depth) ≡ two_in
          inside_is = inside_so st.event (parts_of file stack st.depth) st.depth n.nest (parts_long file stack st.depth) ∙ sym inside

          whole_nest : NestIsOk st.event (parts_of file stack (suc (st.depth - 1)))
          whole_nest = subst (λ (k : ℕ). NestIsOk st.event (parts_of file stack k)) (sym up) n.nest

          less : NestIsOk st.event (parts_of file stack (st.depth - 1))
          unfolding parts_of
          less = nest_less st.event (uppers (ahead file (get_or stack (st.depth - 1) 0) 0)) (parts_of file stack (st.depth - 1)) whole_nest

          less_nested : (d : ℕ) → d ≡ st.depth - 1 → Nested file stack d st.event st.place.at
          less_nested d q =
              record {
                nest = rw q less;
                places = λ k h. n.places k (omega (arith, q, h));
                deep = omega (arith, n.deep, q);
                long = n.long;
                inside = n.inside;
              }

          pub end_goes : two_in ≡ false → Counted room st.count map → IsSmall st.start → EndTurns file v st stack room map (Ok (record { place = st.place; depth = st.depth - 1; event = st.event; start = st.start; stop = st.stop; count = st.count })) map
          unfolding turn_shows IsEndState ended_turn pick
          end_goes z c few =
              record {
                same = λ line. rw (after_so, inside_is ∙ z);
                kept = record { nested = less_nested (st.depth - 1) refl; place = refl; counted = c; few = few };
              }

          two : two_in ≡ true → st.depth ≡ 2
          two z = eqb-true st.depth 2 (both (eqb st.depth 2) st.event (sym inside ∙ z)).0

          pub end_closes : {r : Result State Refusal} {map' : List ℕ} → two_in ≡ true → CloseTurns st room map r map' → EndTurns file v st stack room map r map'
          unfolding ended_turn pick IsClosedState IsEndState
          end_closes {r} {map'} z k =
              record {
                same = λ line. with_parts file stack (days_of map') (parts_of file stack (st.depth - 1)) r (at_one r k.kept) ∙ k.same line (parts_of file stack (st.depth - 1)) ∙ rw (after_so, inside_is ∙ z);
                kept = keeps r k.kept;
              }
            where
              one : 1 ≡ st.depth - 1
              one = omega (arith, two z)

              at_one : (r : Result State Refusal) → IsClosedState room map' st r → (s : State) → r ≡ Ok s → parts_of file stack s.depth ≡ parts_of file stack (st.depth - 1)
              at_one r k s q = let c : ClosedState room map' st s = rw q at k in ap (parts_of file stack) (c.depth ∙ one)

              same_place : (s : State) → ClosedState room map' st s → Nested file stack s.depth s.event s.place.at
              same_place s c = rw (c.event, c.place) (less_nested s.depth (c.depth ∙ one))

              keeps : (r : Result State Refusal) → IsClosedState room map' st r → IsEndState file stack room map' st r
              keeps (Err n) k = tt
              keeps (Ok s) c = record { nested = same_place s c; place = c.place; counted = c.counted; few = c.few }

pub end_room : {file stack : List ℕ} {depth : ℕ} {event : Bool} {at : ℕ} (o : Option Place) (i : Place) → Nested file stack depth event at → LiesBefore file o → o ≡ Some i → (depth ≡ 0 → ⊥) → depth - 1 + 1 ≤ length stack
end_room o i n b e z = let inside = note_place o i b e in omega (arith, n.long, n.deep, n.inside, inside.short, z)

pub end_place : {file stack : List ℕ} {depth : ℕ} {event : Bool} {at : ℕ} → Nested file stack depth event at → (depth ≡ 0 → ⊥) → get_or stack (depth - 1) 0 ≤ length file
end_place {depth = depth} n z = n.places (depth - 1) (omega (arith, z))

pub ruleset end_ways = (note_place, end_room, end_place, inside_two, inside_not, end_lost, end_outside, end_other, end_goes, end_closes, rules)

-- ---- a line
by_begin : (a : After) (inside : Bool) (room line : ℕ) (c : Content) (h : Here) → nest_turn a inside begin room line c h.draft h.dates ≡ opened_turn a h
unfolding nest_turn inside_turn event_turn opened_turn
by_begin broken inside room line c h = refl
by_begin (open_are qs) true room line c h = refl
by_begin (open_are qs) false room line c h = refl

by_end : (a : After) (inside : Bool) (room line : ℕ) (c : Content) (h : Here) → nest_turn a inside end room line c h.draft h.dates ≡ ended_turn room line inside a h
unfolding nest_turn inside_turn event_turn ended_turn pick
by_end broken inside room line c h = refl
by_end (open_are qs) true room line c h = refl
by_end (open_are qs) false room line c h = refl

pub open_parts : (file stack : List ℕ) (n : ℕ) → (n ≡ 0 → ⊥) → after_other (parts_of file stack n) ≡ open_are (parts_of file stack n)
unfolding after_other parts_of
open_parts file stack zero z = absurd (z refl)
open_parts file stack (suc n) z = refl

module _ (file : Bytes) (st : State) (stack : List ℕ) (room : ℕ) (map : List ℕ) (text : is_blank (ahead file st.place.at st.place.line) ≡ false) (k : Keeps file stack room map st) {name : Piece} (p : ReadsPiece file st.place.at st.place.line false false name) where
  abbrev here : Here
  here = here_of file stack (days_of map) st

  abbrev line_here : Line
  line_here = record { number = st.place.line; bytes = ahead file st.place.at st.place.line }

  turn_by : turn_of room line_here here ≡ nest_turn (after (name_by name.number) (line_of file st).said here.parts) (in_event here.parts) (name_by name.number) room st.place.line (line_of file st) here.draft here.dates
  unfolding turn_of blank_turn_of line_turn
  turn_by = rw (text, name_so file st p)

  module _ {v : found.Value} (q : ReadsValue file name.place.at name.place.line (mark_number name.mark) v) where
    to_value : (i : Place) → v.place ≡ Some i → Inside file st.place.at st.place.line i.at i.line
    unfolding LiesInside
    to_value i f = let l : Inside file name.place.at name.place.line i.at i.line = rw f at q.inside in inside_on p.inside l

    pub begin_far : name.number ≡ 35822894 → IsFar st.depth v.place
    unfolding said_at content_of IsFar
    begin_far e = go v.place refl
      where
        go : (o : Option Place) → v.place ≡ o → IsFar st.depth o
        go None f = tt
        go (Some i) f =
            let s : (line_of file st).said ≡ value (ahead file i.at i.line) = said_so file st.place.at st.place.line p q ∙ rw f in
            let l = content_long false (ahead file st.place.at st.place.line) (ahead file i.at i.line) s in
            let m = begin_five (line_of file st).name (sym (number_so file st.place.at st.place.line p) ∙ e) in
            let t = to_value i f in
            omega (arith, l, m, t.far, k.nested.deep)

    pub turn_begin : {r : Result State Refusal} {stack' : List ℕ} → name.number ≡ 35822894 → Begins file v st stack r stack' → Turned file st stack room map r stack' map
    unfolding name_by pick after IsBegun IsTurnState
    turn_begin {r} {stack'} e b =
        record {
          same = b.same (days_of map) ∙ sym (turn_by ∙ rw e (by_begin (after_begin (line_of file st).said here.parts) (in_event here.parts) room st.place.line (line_of file st) here) ∙ ap (λ (w : Value). opened_turn (after_begin w here.parts) here) (said_so file st.place.at st.place.line p q));
          kept = keeps r b.kept;
        }
      where
        keeps : (r : Result State Refusal) → IsBegun file stack' v st r → IsTurnState file stack' room map st r
        keeps (Err n) g = tt
        keeps (Ok s) g =
            record {
              inside = to_value s.place (sym g.place);
              keeps = record { nested = g.nested; counted = rw g.count k.counted; few = rw g.start k.few };
            }

    pub turn_end : {r : Result State Refusal} {map' : List ℕ} → Before file st.place.at st.place.line → name.number ≡ 38340 → EndTurns file v st stack room map r map' → Turned file st stack room map r stack map'
    unfolding name_by pick after IsEndState IsTurnState
    turn_end {r} {map'} start e b =
        record {
          same = b.same st.place.line ∙ sym (turn_by ∙ rw e (by_end (after_end (line_of file st).said here.parts) (in_event here.parts) room st.place.line (line_of file st) here) ∙ ap (λ (w : Value). ended_turn room st.place.line (in_event here.parts) (after_end w here.parts) here) (said_so file st.place.at st.place.line p q));
          kept = keeps r b.kept;
        }
      where
        keeps : (r : Result State Refusal) → IsEndState file stack room map' st r → IsTurnState file stack room map' st r
        keeps (Err n) g = tt
        keeps (Ok s) g =
            record {
              inside = rw g.place (inside_here start);
              keeps = record { nested = g.nested; counted = g.counted; few = g.few };
            }

  module _ (nb : name.number ≡ 35822894 → ⊥) (ne : name.number ≡ 38340 → ⊥) where
    other_line : turn_of room line_here here ≡ nest_turn (after_other here.parts) (in_event here.parts) (name_by name.number) room st.place.line (line_of file st) here.draft here.dates
    other_line = turn_by ∙ ap (λ (a : After). nest_turn a (in_event here.parts) (name_by name.number) room st.place.line (line_of file st) here.draft here.dates) (stays_open name.number nb ne (line_of file st).said here.parts)

    pub turn_outside : st.depth ≡ 0 → Turned file st stack room map (Err Ical) stack map
    unfolding turn_shows IsTurnState parts_of after_other nest_turn
    turn_outside z =
        let e : after_other here.parts ≡ broken = ap (λ (n : ℕ). after_other (parts_of file stack n)) z in
        record { same = sym (other_line ∙ ap (λ (a : After). nest_turn a (in_event here.parts) (name_by name.number) room st.place.line (line_of file st) here.draft here.dates) e); kept = tt }

    module _ (some : st.depth ≡ 0 → ⊥) {i : Bool} (inside : i ≡ (eqb st.depth 2 && st.event)) where
      inside_now : in_event here.parts ≡ i
      inside_now = inside_so st.event here.parts st.depth k.nested.nest (parts_long file stack st.depth) ∙ sym inside

      open_line : turn_of room line_here here ≡ inside_turn i (name_by name.number) room st.place.line (line_of file st) here.draft here.parts here.dates
      unfolding nest_turn
      open_line =
          other_line
          ∙ ap (λ (a : After). nest_turn a (in_event here.parts) (name_by name.number) room st.place.line (line_of file st) here.draft here.dates) (open_parts file stack st.depth some)
          ∙ ap (λ (b : Bool). inside_turn b (name_by name.number) room st.place.line (line_of file st) here.draft here.parts here.dates) inside_now

      pub turn_passes : Before file st.place.at st.place.line → i ≡ false → Turned file st stack room map (Ok st) stack map
      unfolding turn_shows IsTurnState inside_turn
      turn_passes b e =
          record { same = sym (open_line ∙ rw e); kept = record { inside = inside_here b; keeps = k } }

      pub turn_event : {r : Result State Refusal} → Before file st.place.at st.place.line → i ≡ true → EventTurns file st r → Turned file st stack room map r stack map
      unfolding inside_turn StaysAs IsTurnState
      turn_event {r} b e t =
          record {
            same = with_parts file stack (days_of map) here.parts r (depth_same r t.kept) ∙ t.same room st.place.line here.parts here.dates ∙ sym (open_line ∙ rw (e, name_so file st p));
            kept = keeps r t.kept;
          }
        where
          depth_same : (r : Result State Refusal) → StaysAs st r → (s : State) → r ≡ Ok s → parts_of file stack s.depth ≡ here.parts
          depth_same r g s q = let c : Stays st s = rw q at g in ap (parts_of file stack) c.depth

          keeps : (r : Result State Refusal) → StaysAs st r → IsTurnState file stack room map st r
          keeps (Err n) g = tt
          keeps (Ok s) g =
              record {
                inside = rw g.place (inside_here b);
                keeps = record { nested = rw (g.depth, g.event, g.place) k.nested; counted = rw g.count k.counted; few = g.few };
              }

pub keeps_nested : {file stack : List ℕ} {room : ℕ} {map : List ℕ} {st : State} → Keeps file stack room map st → Nested file stack st.depth st.event st.place.at
keeps_nested k = k.nested

pub keeps_counted : {file stack : List ℕ} {room : ℕ} {map : List ℕ} {st : State} → Keeps file stack room map st → Counted room st.count map
keeps_counted k = k.counted

pub keeps_few : {file stack : List ℕ} {room : ℕ} {map : List ℕ} {st : State} → Keeps file stack room map st → IsSmall st.start
keeps_few k = k.few

pub ruleset turn_ways = (name_place, lies_before, keeps_nested, keeps_counted, keeps_few, begin_far, turn_begin, turn_end, turn_outside, turn_passes, turn_event, rules)
