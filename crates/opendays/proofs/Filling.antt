-- A lent list that is written place after place: what is written already, and what is left of what it held.
-- Assumes nothing.
use Prim.Native.Nat.{ℕ, suc, ◌+◌, ◌≤◌, ◌<◌}
use mathlib.Core.Path.{◌≡◌, refl, sym, ap, ◌∙◌}
use mathlib.Core.Bool.{Bool, true}
use mathlib.Core.List.{List, ◌∷◌, ◌++◌, append-nil}
use native.Mathlib.Numerals.{add-one}
use native.Mathlib.Omega.{arith}
use lib.ListN.{length, get_or, set, take, drop, length-append, length-drop, length-set, take-append-drop, drop_of_length-le}
use lib.Seq.{length-take-le, drop-cons, take-suc, append_snoc, set_at, get_or_at, take_all}
use mir.Syntax.{w32}
use mir.Val.{Fits}
use borrow.Author.Rules.{rules}
use Rattle.calendar.specs.Open.{calendar_ok}
use Rattle.calendar.specs.Laws.Told.{ok_closed}
use Rattle.opendays.specs.declared.listed.Passed.{Passed}
use Rattle.opendays.specs.Count.{tally, weekly_open, open_between}
use Rattle.opendays.specs.Index.{MOST, year_start, count_at, index_of, stepped, onwards}
use Rattle.opendays.specs.Inner.Steps.{Rest, Stretch}
use Rattle.opendays.specs.Laws.Index.{index_length, index_at, count_first, count_at_few, year_count}
use Rattle.opendays.specs.Laws.Listed.{rest_start}
use Rattle.opendays.specs.Laws.Stepped.{onwards_length, onwards_take, onwards_from}
use Rattle.opendays.specs.Laws.Years.{start_first, start_le, start_next, start_to}

-- the target up to place i, and what was there from place i on
unfoldable pub up_to : List ℕ → List ℕ → ℕ → List ℕ
up_to target old i = take i target ++ drop i old

module _ (target old : List ℕ) (same : length target ≡ length old) where
  pub write_next : (i v : ℕ) → i < length old → v ≡ get_or target i 0 → set (up_to target old i) i v ≡ up_to target old (suc i)
  unfolding up_to
  write_next i v h e =
      let d : drop i old ≡ get_or old i 0 ∷ drop (suc i) old = drop-cons old i 0 h in
      let l : length (take i target) ≡ i = length-take-le i target (omega arith) in
      ap (λ (r : List ℕ). set (take i target ++ r) i v) d
      ∙ set_at (take i target) (get_or old i 0) (drop (suc i) old) v i l
      ∙ ap (λ (x : ℕ). take i target ++ (x ∷ drop (suc i) old)) e
      ∙ sym (append_snoc (take i target) (get_or target i 0) (drop (suc i) old))
      ∙ ap (λ (r : List ℕ). r ++ drop (suc i) old) (sym (take-suc target i 0 (omega arith)))

  pub read_left : (i : ℕ) → i < length old → get_or (up_to target old i) i 0 ≡ get_or old i 0
  unfolding up_to
  read_left i h =
      let l : length (take i target) ≡ i = length-take-le i target (omega arith) in
      ap (λ (r : List ℕ). get_or (take i target ++ r) i 0) (drop-cons old i 0 h)
      ∙ get_or_at (take i target) (get_or old i 0) (drop (suc i) old) 0 i l

  pub upto_length : (i : ℕ) → i ≤ length old → length (up_to target old i) ≡ length old
  unfolding up_to
  upto_length i h = length-append (take i target) (drop i old) ∙ omega (arith, length-take-le i target (omega arith), length-drop i old)

  pub upto_all : (i : ℕ) → length old ≤ i → up_to target old i ≡ target
  unfolding up_to
  upto_all i h =
      ap (λ (r : List ℕ). take i target ++ r) (drop_of_length-le old h)
      ∙ append-nil (take i target)
      ∙ take_all i target (omega arith)

-- ---- counts that step
pub record Stepping (up : Bool) (place : ℕ) (old now : List ℕ) (i : ℕ) : Type 0 where
  pub order : place ≤ i
  pub within : i ≤ length old
  pub long : length now ≡ length old
  pub written : now ≡ up_to (onwards up place old) old i

step_nothing : (up : Bool) (place : ℕ) (old : List ℕ) → place ≤ length old → old ≡ up_to (onwards up place old) old place
unfolding up_to
step_nothing up place old h = sym (ap (λ (r : List ℕ). r ++ drop place old) (onwards_take up place old h) ∙ take-append-drop place old)

pub stepping_start : {up : Bool} {place : ℕ} {old : List ℕ} → place ≤ length old → Stepping up place old old place
stepping_start {up} {place} {old} h = record { order = omega arith; within = h; long = refl; written = step_nothing up place old h }

module _ {up : Bool} {place : ℕ} {old now : List ℕ} {i : ℕ} (g : Stepping up place old now i) where
  pub stepping_on : {v : ℕ} → i < length now → v ≡ stepped up (get_or now i 0) → Stepping up place old (set now i v) (i + 1)
  stepping_on {v} h e =
      let l : place ≤ length old = omega (arith, g.order, g.within) in
      let n : i < length old = omega (arith, g.long) in
      let t : length (onwards up place old) ≡ length old = onwards_length up place old l in
      let r : get_or now i 0 ≡ get_or old i 0 = ap (λ (x : List ℕ). get_or x i 0) g.written ∙ read_left (onwards up place old) old t i n in
      let w : set now i v ≡ up_to (onwards up place old) old (suc i) = ap (λ (x : List ℕ). set x i v) g.written ∙ write_next (onwards up place old) old t i v n (e ∙ ap (stepped up) r ∙ sym (onwards_from up place old l i g.order n)) in
      record {
        order = omega (arith, g.order);
        within = omega arith;
        long = ap length w ∙ upto_length (onwards up place old) old t (suc i) (omega arith);
        written = w ∙ ap (up_to (onwards up place old) old) (sym (add-one i));
      }

  pub stepping_end : length now ≤ i → now ≡ onwards up place old
  stepping_end h =
      let l : place ≤ length old = omega (arith, g.order, g.within) in
      g.written ∙ upto_all (onwards up place old) old (onwards_length up place old l) i (omega (arith, g.long))

pub ruleset stepping = (stepping_start, stepping_on, stepping_end, rules)

-- ---- the index of a calendar, year after year
pub record Filling (mask : ℕ) (closed old : List ℕ) (each : ℕ) (index : List ℕ) (place count start i : ℕ) : Type 0 where
  pub sound : calendar_ok mask closed ≡ true
  pub weekly : each ≡ tally (weekly_open mask) 1 7
  pub sized : length old ≡ 601
  pub long : length index ≡ 601
  pub within : i ≤ 600
  pub started : start ≡ year_start i
  pub counted : count ≡ count_at mask closed i
  pub small : count ≤ MOST
  pub placed : place ≤ length closed
  pub rest : Rest closed (drop place closed) start
  pub written : index ≡ up_to (index_of mask closed) old i

module _ (mask : ℕ) (closed old : List ℕ) (sized : length old ≡ 601) where
  targets : length (index_of mask closed) ≡ length old
  targets = index_length mask closed ∙ sym sized

  wrote : (i v : ℕ) → i ≤ 600 → v ≡ count_at mask closed i → set (up_to (index_of mask closed) old i) i v ≡ up_to (index_of mask closed) old (suc i)
  wrote i v h e = write_next (index_of mask closed) old targets i v (omega arith) (e ∙ sym (index_at mask closed i (omega arith)))

  long_as : (i : ℕ) (now : List ℕ) → i ≤ 601 → now ≡ up_to (index_of mask closed) old i → length now ≡ 601
  long_as i now h e = ap length e ∙ upto_length (index_of mask closed) old targets i (omega arith) ∙ sized

nothing_yet : (target old : List ℕ) → old ≡ up_to target old 0
unfolding up_to
nothing_yet target old = refl

pub filling_start : {mask each : ℕ} {closed old : List ℕ} → calendar_ok mask closed ≡ true → each ≡ tally (weekly_open mask) 1 7 → length old ≡ 601 → Filling mask closed old each old 0 0 657072 0
filling_start {mask} {each} {closed} {old} ok w s =
    record {
      sound = ok;
      weekly = w;
      sized = s;
      long = s;
      within = omega arith;
      started = sym start_first;
      counted = sym (count_first mask closed);
      small = omega arith;
      placed = omega arith;
      rest = rest_start (ok_closed mask closed ok);
      written = nothing_yet (index_of mask closed) old;
    }

module _ {mask : ℕ} {closed old : List ℕ} {each : ℕ} {index : List ℕ} {place count start i : ℕ} (g : Filling mask closed old each index place count start i) where
  pub filling_next : (next : ℕ) → next ≡ year_start (i + 1) → start ≤ next
  filling_next next e = omega (arith, g.started, start_le i (i + 1) (omega arith))

  pub filling_near : (next : ℕ) → next ≡ year_start (i + 1) → next ≤ start + 400
  filling_near next e = omega (arith, g.started, start_next i)

  pub filling_span : (next : ℕ) → i < 600 → next ≡ year_start (i + 1) → next ≤ 876217
  filling_span next h e = omega (arith, start_to (i + 1) (omega arith))

  pub filling_long : length (set index 600 count) ≡ length old
  filling_long = length-set index 600 count ∙ g.long ∙ sym g.sized

  module _ {next : ℕ} {year : Passed} (e : next ≡ year_start (i + 1)) (s : Stretch mask closed start next year) (h : i < 600) where
    counts : count + year.count ≡ count_at mask closed (i + 1)
    counts =
        let o : open_between mask closed start next ≡ open_between mask closed (year_start i) (year_start (i + 1)) = rw (g.started, e) in
        omega (arith, g.counted, s.count, year_count mask closed i)

    pub filling_fits : Fits w32 (count + year.count)
    filling_fits = record { fits = omega (arith, counts, count_at_few mask closed (i + 1) (omega arith)) }

    pub filling_on : Filling mask closed old each (set index i count) year.place (count + year.count) next (i + 1)
    filling_on =
        let w : set index i count ≡ up_to (index_of mask closed) old (suc i) = ap (λ (x : List ℕ). set x i count) g.written ∙ wrote mask closed old g.sized i count g.within g.counted in
        record {
          sound = g.sound;
          weekly = g.weekly;
          sized = g.sized;
          long = long_as mask closed old g.sized (suc i) (set index i count) (omega arith) w;
          within = omega arith;
          started = e;
          counted = counts;
          small = omega (arith, counts, count_at_few mask closed (i + 1) (omega arith));
          placed = s.within;
          rest = s.rest;
          written = w ∙ ap (up_to (index_of mask closed) old) (sym (add-one i));
        }

  pub filling_end : 600 ≤ i → set index 600 count ≡ index_of mask closed
  filling_end h =
      let q : i ≡ 600 = omega (arith, g.within) in
      ap (λ (x : List ℕ). set x 600 count) (g.written ∙ ap (up_to (index_of mask closed) old) q)
      ∙ wrote mask closed old g.sized 600 count (omega arith) (g.counted ∙ ap (count_at mask closed) q)
      ∙ upto_all (index_of mask closed) old (targets mask closed old g.sized) 601 (omega (arith, g.sized))

pub ruleset filling = (filling_start, filling_next, filling_near, filling_span, filling_long, filling_fits, filling_on, filling_end, rules)
