-- Laws of the ways through the map of days: one for each way through the code.
-- Assumes nothing.
use Prim.Native.Nat.{ℕ, suc, ◌+◌, ◌-◌, ◌*◌, ◌/◌, ◌%◌, ◌^◌, ◌≤◌, ◌<◌}
use mathlib.Core.Path.{◌≡◌, refl, sym, ap, ◌∙◌, subst}
use mathlib.Core.Bool.{Bool, true, false, false≢true}
use mathlib.Core.List.{List, [], ◌∷◌, ◌++◌, append-nil, append_assoc}
use native.Mathlib.Numerals.{add-one}
use native.Mathlib.Omega.{arith}
use lib.Dec.{eqb}
use lib.ListN.{length, take, drop, get_or, set, length-set, length-append, take-append-drop}
use lib.Seq.{take-suc-set, drop-set-lt, length-take-le, drop-drop}
use mir.Val.{Fits}
use mir.Syntax.{w32}
use borrow.Author.Rules.{rules}
use borrow.Author.Tests.{eqb-true}
use Rattle.std.specs.Prelude.{None, Some}
use Rattle.holidays.specs.Import.{insert, add}
use Rattle.holidays.specs.Laws.Listed.{◌∈◌}
use Rattle.holidays.specs.Laws.Places.{insert_old, insert_new, add_next, add_longer}
use Rattle.holidays.specs.Laws.Bits.{bit_fits, bit_empty}
use Rattle.holidays.specs.Laws.Days.{map_ascends, bit_in, bit_out, put_days, full_bits, empty_bits, add_there, day_here, no_day_here, no_days}
use Rattle.holidays.specs.Inner.Days.{FIRST, DAYS, WORDS, bit_of, bit_at, days_from, days_of, over, Fulls, Empties, IsAdded, Adds}

-- ---- one bit
pub bit_read : (map : List ℕ) (o : ℕ) → eqb (get_or map (o / 32) 0 / 2 ^ (o % 32) % 2) 1 ≡ bit_at map o
unfolding bit_at bit_of
bit_read map o = refl

power : (k : ℕ) → k < 32 → 1 * 2 ^ k % 4294967296 ≡ 2 ^ k
power k h = small (2 ^ k) (let z = bit_fits 0 k (omega arith) h (bit_empty k) in omega (arith, z))
  where
    small : (p : ℕ) → p < 4294967296 → 1 * p % 4294967296 ≡ p
    small p l = omega arith

module _ (map : List ℕ) (o : ℕ) where
  bit_place : o % 32 < 32
  bit_place = omega arith

  pub put_fits : get_or map (o / 32) 0 < 4294967296 → bit_at map o ≡ false → Fits w32 (get_or map (o / 32) 0 + 1 * 2 ^ (o % 32) % 4294967296)
  unfolding bit_at
  put_fits h e =
      let f = bit_fits (get_or map (o / 32) 0) (o % 32) h bit_place e in
      let p = power (o % 32) bit_place in
      record { fits = omega (arith, f, p) }

  pub put_same : set map (o / 32) (get_or map (o / 32) 0 + 1 * 2 ^ (o % 32) % 4294967296) ≡ set map (o / 32) (get_or map (o / 32) 0 + 2 ^ (o % 32))
  put_same = ap (λ (x : ℕ). set map (o / 32) (get_or map (o / 32) 0 + x)) (power (o % 32) bit_place)

pub ruleset bits_of = (bit_read, put_same, rules)

-- ---- whole words
module _ (map : List ℕ) (o : ℕ) where
  pub not_full : (past : ℕ) → Fulls map o past false
  not_full past = record { bits = λ e. absurd (false≢true e); inside = λ e. absurd (false≢true e) }

  pub is_full : (past : ℕ) → o % 32 ≡ 0 → o + 32 ≤ past → Fulls map o past (eqb (get_or map (o / 32) 0) 4294967295)
  is_full past s h = record { bits = λ e j l. full_bits o j s l map (eqb-true _ 4294967295 e); inside = λ e. h }

  pub not_empty : Empties map o false
  not_empty = record { bits = λ e. absurd (false≢true e) }

  pub is_empty : o % 32 ≡ 0 → Empties map o (eqb (get_or map (o / 32) 0) 0)
  is_empty s = record { bits = λ e j l. empty_bits o j s l map (eqb-true _ 0 e) }

pub ruleset words_of = (not_full, is_full, not_empty, is_empty, rules)

-- ---- days added
pub record Adding (map₀ : List ℕ) (first past limit : ℕ) (map : List ℕ) (o n : ℕ) : Type 0 where
  pub days : days_of map ≡ add (o - first) (FIRST + first) (days_of map₀)
  pub count : n ≡ length (days_of map)
  pub room : n ≤ limit
  pub from : first ≤ o
  pub to : o ≤ past
  pub last : past ≤ DAYS
  pub long : length map ≡ WORDS

pub adding_start : {map : List ℕ} {first past limit n : ℕ} → length map ≡ WORDS → first ≤ past → past ≤ DAYS → n ≡ length (days_of map) → n ≤ limit → Adding map first past limit map first n
unfolding add
adding_start {map} {first} l p d c r =
    record {
      days = let q : first - first ≡ 0 = omega arith in ap (λ (k : ℕ). add k (FIRST + first) (days_of map)) (sym q);
      count = c;
      room = r;
      from = omega arith;
      to = p;
      last = d;
      long = l;
    }

module _ {map₀ : List ℕ} {first past limit : ℕ} {map : List ℕ} {o n : ℕ} (g : Adding map₀ first past limit map o n) where
  pub adding_long : length map ≡ WORDS
  adding_long = g.long

  pub adding_day : o < past → o < DAYS
  adding_day h = omega (arith, g.last)

  pub adding_last : past ≤ DAYS
  adding_last = g.last

  at_day : FIRST + first + (o - first) ≡ FIRST + o
  at_day = omega (arith, g.from)

  pub adding_word : {r : Bool} → Fulls map o past r → r ≡ true → Adding map₀ first past limit map (o + 32) n
  adding_word f e =
      let q : o + 32 - first ≡ o - first + 32 = omega (arith, g.from) in
      let there : (j : ℕ) → j < 32 → FIRST + first + (o - first) + j ∈ add (o - first) (FIRST + first) (days_of map₀) =
      λ j l.
      let i : FIRST + (o + j) ∈ days_of map = bit_in map (o + j) (omega (arith, f.inside e, g.last)) (f.bits e j l) in
      let s : FIRST + (o + j) ≡ FIRST + first + (o - first) + j = omega (arith, g.from) in
      subst (λ (k : ℕ). k ∈ add (o - first) (FIRST + first) (days_of map₀)) s (subst (λ (xs : List ℕ). FIRST + (o + j) ∈ xs) g.days i) in
      record {
        days = g.days ∙ sym (add_there 32 (o - first) (FIRST + first) (days_of map₀) (map_ascends map₀) there) ∙ ap (λ (k : ℕ). add k (FIRST + first) (days_of map₀)) (sym q);
        count = g.count;
        room = g.room;
        from = omega (arith, g.from);
        to = f.inside e;
        last = g.last;
        long = g.long;
      }

  -- one more day: inserted behind those before it
  one_more : add (o + 1 - first) (FIRST + first) (days_of map₀) ≡ insert (FIRST + o) (days_of map)
  one_more =
      let q : o + 1 - first ≡ suc (o - first) = omega (arith, g.from) in
      ap (λ (k : ℕ). add k (FIRST + first) (days_of map₀)) q
      ∙ add_next (o - first) (FIRST + first) (days_of map₀) (map_ascends map₀)
      ∙ ap (λ (k : ℕ). insert k (add (o - first) (FIRST + first) (days_of map₀))) at_day
      ∙ ap (insert (FIRST + o)) (sym g.days)

  module _ (h : o < past) {r : Bool} (b : r ≡ bit_at map o) where
    pub adding_old : r ≡ true → Adding map₀ first past limit map (o + 1) n
    adding_old e =
        record {
          days = sym (insert_old (FIRST + o) (days_of map) (map_ascends map) (bit_in map o (adding_day h) (sym b ∙ e))) ∙ sym one_more;
          count = g.count;
          room = g.room;
          from = omega (arith, g.from);
          to = omega arith;
          last = g.last;
          long = g.long;
        }

    module _ (e : r ≡ false) where
      pub adding_clear : bit_at map o ≡ false
      adding_clear = sym b ∙ e

      new_length : length (insert (FIRST + o) (days_of map)) ≡ suc n
      new_length = insert_new (FIRST + o) (days_of map) (bit_out map o (sym b ∙ e)) ∙ ap suc (sym g.count)

      pub adding_full : {map' : List ℕ} → n ≡ limit → Adds map₀ first past limit None map'
      unfolding IsAdded
      adding_full f =
          let q : past - (o + 1) + (o + 1 - first) ≡ past - first = omega (arith, g.from) in
          let l = add_longer (past - (o + 1)) (o + 1 - first) (FIRST + first) (days_of map₀) (map_ascends map₀) in
          let m : length (add (past - (o + 1) + (o + 1 - first)) (FIRST + first) (days_of map₀)) ≡ length (add (past - first) (FIRST + first) (days_of map₀)) = ap (λ (k : ℕ). length (add k (FIRST + first) (days_of map₀))) q in
          record { so = omega (arith, l, m, ap length one_more, new_length, f) }

      pub adding_new : {map' : List ℕ} → (n ≡ limit → ⊥) → map' ≡ set map (o / 32) (get_or map (o / 32) 0 + 2 ^ (o % 32)) → Adding map₀ first past limit map' (o + 1) (n + 1)
      adding_new {map'} f q =
          let w : o / 32 < length map = omega (arith, g.long, g.last) in
          let d : days_of map' ≡ insert (FIRST + o) (days_of map) = ap days_of q ∙ put_days map o w (sym b ∙ e) (adding_day h) in
          record {
            days = d ∙ sym one_more;
            count = omega (arith, ap length d, new_length);
            room = omega (arith, g.room, f);
            from = omega (arith, g.from);
            to = omega arith;
            last = g.last;
            long = ap length q ∙ length-set map (o / 32) _ ∙ g.long;
          }

  pub adding_done : past ≤ o → Adds map₀ first past limit (Some n) map
  unfolding IsAdded
  adding_done h =
      let q : o - first ≡ past - first = omega (arith, g.to) in
      record { so = (g.days ∙ ap (λ (k : ℕ). add k (FIRST + first) (days_of map₀)) q, (g.count, (g.room, g.long))) }

pub ruleset addings = (adding_start, adding_long, adding_day, adding_last, adding_word, adding_old, adding_clear, adding_full, adding_new, adding_done, rules)

-- ---- days written
pub record Writing (map list₀ : List ℕ) (list : List ℕ) (o j : ℕ) : Type 0 where
  pub days : take j list ++ days_from (DAYS - o) o map ≡ days_of map
  pub rest : drop j list ≡ drop j list₀
  pub long : length list ≡ length list₀
  pub inside : j ≤ length list₀
  pub room : length (days_of map) ≤ length list₀
  pub words : length map ≡ WORDS
  pub few : o ≤ DAYS + 32

pub writing_start : {map list : List ℕ} → length map ≡ WORDS → length (days_of map) ≤ length list → Writing map list list 0 0
unfolding days_of
writing_start w r = record { days = refl; rest = refl; long = refl; inside = omega arith; room = r; words = w; few = omega arith }

module _ {map list₀ list : List ℕ} {o j : ℕ} (g : Writing map list₀ list o j) where
  pub writing_words : length map ≡ WORDS
  writing_words = g.words

  pub writing_empty : {r : Bool} → o < 219145 → Empties map o r → r ≡ true → Writing map list₀ list (o + 32) j
  writing_empty h f e =
      let q : DAYS - o - 32 ≡ DAYS - (o + 32) = omega arith in
      record {
        days = ap (λ (ds : List ℕ). take j list ++ ds) (sym (no_days 32 (DAYS - o) o map (f.bits e) ∙ ap (λ (k : ℕ). days_from k (o + 32) map) q)) ∙ g.days;
        rest = g.rest;
        long = g.long;
        inside = g.inside;
        room = g.room;
        words = g.words;
        few = omega arith;
      }

  module _ (h : o < 219145) {r : Bool} (b : r ≡ bit_at map o) where
    next_bit : DAYS - o - 1 ≡ DAYS - (o + 1)
    next_bit = omega arith

    pub writing_none : r ≡ false → Writing map list₀ list (o + 1) j
    writing_none e =
        record {
          days = ap (λ (ds : List ℕ). take j list ++ ds) (sym (no_day_here (DAYS - o) o map (omega arith) (sym b ∙ e) ∙ ap (λ (k : ℕ). days_from k (o + 1) map) next_bit)) ∙ g.days;
          rest = g.rest;
          long = g.long;
          inside = g.inside;
          room = g.room;
          words = g.words;
          few = omega arith;
        }

    module _ (e : r ≡ true) where
      split : take j list ++ ((FIRST + o) ∷ days_from (DAYS - (o + 1)) (o + 1) map) ≡ days_of map
      split = ap (λ (ds : List ℕ). take j list ++ ds) (sym (day_here (DAYS - o) o map (omega arith) (sym b ∙ e) ∙ ap (λ (k : ℕ). (FIRST + o) ∷ days_from k (o + 1) map) next_bit)) ∙ g.days

      pub writing_place : j < length list
      writing_place =
          let l = length-append (take j list) ((FIRST + o) ∷ days_from (DAYS - (o + 1)) (o + 1) map) in
          omega (arith, l, ap length split, length-take-le j list (omega (arith, g.inside, g.long)), g.room, g.long)

      pub writing_day : {list' : List ℕ} → list' ≡ set list j (657072 + o) → Writing map list₀ list' (o + 1) (j + 1)
      writing_day {list'} q =
          let t : take (j + 1) list' ≡ take j list ++ ((FIRST + o) ∷ []) = ap (λ (k : ℕ). take k list') (add-one j) ∙ ap (take (suc j)) q ∙ take-suc-set list j (657072 + o) writing_place in
          let d : drop (j + 1) list' ≡ drop (j + 1) list = ap (drop (j + 1)) q ∙ drop-set-lt (j + 1) list j (657072 + o) (omega arith) in
          record {
            days = ap (λ (ds : List ℕ). ds ++ days_from (DAYS - (o + 1)) (o + 1) map) t ∙ append_assoc (take j list) ((FIRST + o) ∷ []) _ ∙ split;
            rest = d ∙ further;
            long = ap length q ∙ length-set list j _ ∙ g.long;
            inside = omega (arith, writing_place, g.long);
            room = g.room;
            words = g.words;
            few = omega arith;
          }
        where
          further : drop (j + 1) list ≡ drop (j + 1) list₀
          further = sym (drop-drop 1 j list) ∙ ap (drop 1) g.rest ∙ drop-drop 1 j list₀

  pub writing_done : 219145 ≤ o → list ≡ over (days_of map) list₀
  unfolding over days_from
  writing_done h =
      let z : DAYS - o ≡ 0 = omega arith in
      let t : take j list ≡ days_of map = sym (append-nil (take j list)) ∙ ap (λ (k : ℕ). take j list ++ days_from k o map) (sym z) ∙ g.days in
      let n : length (days_of map) ≡ j = ap length (sym t) ∙ length-take-le j list (omega (arith, g.inside, g.long)) in
      sym (take-append-drop j list) ∙ ap (λ (ds : List ℕ). ds ++ drop j list) t ∙ ap (λ (ds : List ℕ). days_of map ++ ds) (g.rest ∙ ap (λ (k : ℕ). drop k list₀) (sym n))

pub ruleset writings = (writing_start, writing_words, writing_empty, writing_none, writing_place, writing_day, writing_done, rules)
