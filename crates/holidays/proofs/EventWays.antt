-- Laws of the ways through a VEVENT: one for each way through the code.
-- Assumes nothing.
use Prim.Native.Nat.{ℕ, ◌+◌, ◌-◌, ◌≤◌, ◌<◌, min}
use mathlib.Core.Path.{◌≡◌, refl, sym, ap, ◌∙◌}
use mathlib.Core.Bool.{Bool, true, false}
use mathlib.Core.List.{List}
use native.Mathlib.Omega.{arith}
use lib.Dec.{eqb, leb}
use lib.ListN.{length}
use borrow.Author.Rules.{rules}
use borrow.Author.Tests.{eqb-true, eqb-false, eq-eqb, ne_eqb, le-leb, lt-leb, le-ltb, lt-ltb}
use Rattle.std.specs.Prelude.{Option, None, Some, is_some, Result, Ok, Err}
use Rattle.refusal.specs.declared.Refusal.{Refusal}
use Rattle.refusal.specs.declared.Refusal.TheVariants.{Book, Room, Full, Ical}
use Rattle.refusal.specs.Refusals.{number_of}
use Rattle.refusal.specs.Answer.{Answer, answered}
use Rattle.holidays.specs.declared.lines.Place.{Place}
use Rattle.holidays.specs.declared.parameters.Value as found
use Rattle.holidays.specs.Words.{Bytes}
use Rattle.holidays.specs.Nesting.{Parts}
use Rattle.holidays.specs.Dated.{Dated, all_day, timed, bad, CYCLE, by_kind, by_value}
use Rattle.holidays.specs.Events.{nothing, day, blank}
use Rattle.holidays.specs.Import.{add, with_event, MOST, full, fits}
use Rattle.holidays.specs.Laws.Exactly.{Here, goes, check, date_turn, event_of, close_turn, end_turn}
use Rattle.holidays.specs.Inner.Along.{ahead, Before}
use Rattle.holidays.specs.Inner.Digits.{kind_is, IsSmall, date_answer, IsSmallDay, SaysDate}
use Rattle.holidays.specs.Inner.Parameters.{said_at, LiesBefore}
use Rattle.holidays.specs.Inner.Days.{FIRST, DAYS, WORDS, days_of, IsAdded, Adds}
use Rattle.holidays.specs.Inner.Events.{said_of, past_of, Limits, noted_turn, Notes, closed_turn, IsClosedCount, Closes}
use Rattle.holidays.proofs.WordWays.{taken, left}

-- ---- a date
turn_same : (t : Dated) (on : ℕ → Here) → date_turn nothing t on ≡ noted_turn (date_answer t) on
unfolding date_turn noted_turn date_answer
turn_same (all_day d) on = refl
turn_same timed on = refl
turn_same bad on = refl

module _ (file : Bytes) (said : Option ℕ) (v : found.Value) {t : Bool} (q : t ≡ is_some said) where
  pub note_repeated : t ≡ true → Notes file said v (Err Ical)
  unfolding noted_turn IsSmallDay date_turn said_of
  note_repeated e = go said (sym q ∙ e)
    where
      go : (o : Option ℕ) → is_some o ≡ true → Notes file o v (Err Ical)
      go None z = absurd cc
      go (Some d) z = record { same = λ on. refl; few = tt }

  module _ (e : t ≡ false) where
    unsaid_day : said_of said ≡ nothing
    unfolding said_of
    unsaid_day = go said (sym q ∙ e)
      where
        go : (o : Option ℕ) → is_some o ≡ false → said_of o ≡ nothing
        go None z = refl
        go (Some d) z = absurd cc

    pub note_lost : v.place ≡ None → Notes file said v (Err Ical)
    unfolding noted_turn IsSmallDay date_turn by_value said_at
    note_lost f = record { same = λ on. rw (unsaid_day, f); few = tt }

    pub note_read : (p : Place) → v.place ≡ Some p → {r : Result ℕ Refusal} → SaysDate v.kind (ahead file p.at p.line) r → Notes file said v r
    unfolding by_value said_at
    note_read p f {r} d =
        let b : by_value (kind_is v.kind) (said_at file v.place) ≡ by_kind (kind_is v.kind) (ahead file p.at p.line) = rw f in
        record {
          same = λ on. rw (unsaid_day, b) (turn_same (by_kind (kind_is v.kind) (ahead file p.at p.line)) on ∙ ap (λ (a : Answer ℕ). noted_turn a on) (sym d.same));
          few = d.few;
        }

pub note_place : {file : Bytes} (o : Option Place) (p : Place) → LiesBefore file o → o ≡ Some p → Before file p.at p.line
unfolding LiesBefore
note_place o p b e = rw e at b

pub ruleset notings = (note_repeated, note_lost, note_place, note_read, rules)

-- ---- the end
pub past_next : (start : ℕ) {stop : Option ℕ} → stop ≡ None → start + 1 ≡ past_of start stop
unfolding past_of
past_next start e = ap (past_of start) (sym e)

pub past_said : (start : ℕ) {stop : Option ℕ} (d : ℕ) → stop ≡ Some d → d ≡ past_of start stop
unfolding past_of
past_said start d e = ap (past_of start) (sym e)

pub full_short : (room : ℕ) → room < 4096 → number_of Room ≡ full room
unfolding full
full_short room h = taken _ _ _ (lt-ltb room 4096 h)

pub full_most : (room : ℕ) → 4096 ≤ room → number_of Full ≡ full room
unfolding full
full_most room h = left _ _ _ (le-ltb room 4096 h)

pub ruleset ends_are = (past_next, past_said, full_short, full_most, rules)

span : (k s p : ℕ) → k ≤ s → p - k - (s - k) ≡ p - s
span k s p h = omega arith

since_1800 : (s : ℕ) → 803169 ≤ s → s - CYCLE ≡ FIRST + (s - 803169)
since_1800 s h = omega arith

module _ (begun stop : Option ℕ) (room : ℕ) (map : List ℕ) where
  pub close_none : {map' : List ℕ} → begun ≡ None → Closes begun stop room map (Err Ical) map'
  unfolding end_turn closed_turn IsClosedCount said_of
  close_none e = record { same = λ line qs. rw e; counted = tt }

  module _ (start : ℕ) (some : begun ≡ Some start) {past : ℕ} (p : past ≡ past_of start stop) where
    by_past : (line : ℕ) (qs : Parts) → end_turn room line (said_of begun) (said_of stop) qs (days_of map) ≡ close_turn room line start past qs (days_of map)
    unfolding end_turn said_of past_of
    by_past line qs = rw (some, p) (go stop)
      where
        go : (o : Option ℕ) → end_turn room line (day start) (said_of o) qs (days_of map) ≡ close_turn room line start (past_of start o) qs (days_of map)
        go None = refl
        go (Some d) = refl

    pub close_early : {map' : List ℕ} → past ≤ start → Closes begun stop room map (Err Ical) map'
    unfolding close_turn check closed_turn IsClosedCount
    close_early h = record { same = λ line qs. by_past line qs ∙ rw (le-ltb start past h); counted = tt }

    module _ (later : start < past) where
      pub close_before : {map' : List ℕ} → start < 803169 → Closes begun stop room map (Err Book) map'
      unfolding close_turn check closed_turn IsClosedCount
      close_before h = record { same = λ line qs. by_past line qs ∙ rw (lt-ltb start past later, lt-leb (CYCLE + 657072) start h); counted = tt }

      module _ (since : 803169 ≤ start) where
        pub close_behind : {map' : List ℕ} → 1022314 < past → Closes begun stop room map (Err Book) map'
        unfolding close_turn check closed_turn IsClosedCount
        close_behind h = record { same = λ line qs. by_past line qs ∙ rw (lt-ltb start past later, le-leb (CYCLE + 657072) start since, lt-leb past (CYCLE + 876217) h); counted = tt }

        module _ (until : past ≤ 1022314) {limit : ℕ} (l : Limits room limit) {r : Option ℕ} {map' : List ℕ} (a : Adds map (start - 803169) (past - 803169) limit r map') where
          event_days : (line : ℕ) → with_event (event_of line start past) (days_of map) ≡ add (past - 803169 - (start - 803169)) (FIRST + (start - 803169)) (days_of map)
          unfolding with_event
          event_days line =
              let f : past - CYCLE - (start - CYCLE) ≡ past - 803169 - (start - 803169) = span CYCLE start past (omega arith) ∙ sym (span 803169 start past since) in
              let g : start - CYCLE ≡ FIRST + (start - 803169) = since_1800 start since in
              ap (λ (k : ℕ). add k (start - CYCLE) (days_of map)) f ∙ ap (λ (k : ℕ). add (past - 803169 - (start - 803169)) k (days_of map)) g

          checked : (line : ℕ) (qs : Parts) → end_turn room line (said_of begun) (said_of stop) qs (days_of map) ≡ check (fits room (with_event (event_of line start past) (days_of map))) (full room) (goes (record { parts = qs; draft = blank; dates = with_event (event_of line start past) (days_of map) }))
          unfolding close_turn check
          checked line qs = by_past line qs ∙ rw (lt-ltb start past later, le-leb (CYCLE + 657072) start since, le-leb past (CYCLE + 876217) until)

          pub close_full : {n : Refusal} → r ≡ None → number_of n ≡ full room → Closes begun stop room map (Err n) map'
          unfolding closed_turn IsClosedCount IsAdded check fits
          close_full {n} e q =
              let o : limit < length (add (past - 803169 - (start - 803169)) (FIRST + (start - 803169)) (days_of map)) = rw e at a.so in
              let t : leb (length (add (past - 803169 - (start - 803169)) (FIRST + (start - 803169)) (days_of map))) (min room MOST) ≡ false = lt-leb (length (add (past - 803169 - (start - 803169)) (FIRST + (start - 803169)) (days_of map))) (min room MOST) (omega (arith, o, l.same)) in
              record {
                same = λ line qs. checked line qs ∙ rw (event_days line, t, q);
                counted = tt;
              }

          pub close_days : (n : ℕ) → r ≡ Some n → Closes begun stop room map (Ok n) map'
          unfolding closed_turn IsClosedCount IsAdded check fits
          close_days n e =
              let o : (days_of map' ≡ add (past - 803169 - (start - 803169)) (FIRST + (start - 803169)) (days_of map)) × ((n ≡ length (days_of map')) × ((n ≤ limit) × (length map' ≡ WORDS))) = rw e at a.so in
              record {
                same = λ line qs. checked line qs ∙ rw (event_days line, ← o.0, le-leb (length (days_of map')) (min room MOST) (omega (arith, o.1.0, o.1.1.0, l.same)));
                counted = record { count = o.1.0; room_for = omega (arith, o.1.1.0, l.same); long = o.1.1.1 };
              }

pub small_start : (begun : Option ℕ) (start : ℕ) → IsSmall begun → begun ≡ Some start → start ≤ 5000000
unfolding IsSmall
small_start begun start b e = let l : (1 ≤ start) × (start ≤ 5000000) = rw e at b in l.1

pub close_first : {start past : ℕ} → start < past → start - 803169 ≤ past - 803169
close_first h = omega arith

pub close_last : {past : ℕ} → past ≤ 1022314 → past - 803169 ≤ DAYS
close_last h = omega arith

pub close_room : {room limit count : ℕ} → Limits room limit → count ≤ min room 4096 → count ≤ limit
close_room l h = omega (arith, l.same)

pub ruleset closings = (small_start, close_none, close_early, close_before, close_behind, close_full, close_days, close_first, close_last, close_room, rules)
