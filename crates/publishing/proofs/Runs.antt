-- Runs counted and put, day after day.
-- Assumes nothing.
use Prim.Native.Nat.{ℕ, ◌+◌, ◌*◌, ◌≤◌, ◌<◌}
use mathlib.Core.Path.{◌≡◌, refl, ap, sym, ◌∙◌}
use mathlib.Core.Bool.{Bool, true, false}
use mathlib.Core.List.{List, [], ◌∷◌, ◌++◌, append_assoc, append-nil}
use native.Mathlib.Numerals.{add-one}
use native.Mathlib.Omega.{arith}
use mir.Syntax.{w32}
use mir.Val.{Fits}
use lib.Dec.{eqb}
use lib.ListN.{length, drop, get_or, length-append, drop_of_length-le}
use lib.Seq.{drop-cons}
use borrow.Author.Tests.{eq-eqb, ne_eqb}
use borrow.Author.Rules.{rules}
use Rattle.calendar.specs.Open.{closed_ok}
use Rattle.calendar.specs.Laws.Kept.{checked_keeps}
use Rattle.holidays.specs.Words.{Bytes}
use Rattle.publishing.specs.File.{Run, joined, runs_from, runs_of, event_lines, all_events, written}
use Rattle.publishing.specs.Inner.Put.{Put}
use Rattle.publishing.specs.Laws.Sizes.{written_more, events_size}
use Rattle.publishing.proofs.Putting.{put_none, put_then}

-- a day of the list has a next one
pub next_day : (list : List ℕ) (i : ℕ) → closed_ok list ≡ true → i < length list → Fits w32 (get_or list i 0 + 1)
next_day list i ok h = record { fits = omega (arith, (checked_keeps list ok).to i h) }

pub first_day : (list : List ℕ) → closed_ok list ≡ true → (length list ≡ 0 → ⊥) → Fits w32 (get_or list 0 0 + 1)
first_day list ok h = record { fits = omega (arith, (checked_keeps list ok).to 0 (some list h)) }
  where
    some : (xs : List ℕ) → (length xs ≡ 0 → ⊥) → 0 < length xs
    some [] n = absurd (n refl)
    some (x ∷ xs) n = omega arith

-- how many runs there are does not hang on where the open one starts
runs_many : (a b past : ℕ) (ds : List ℕ) → length (runs_from a past ds) ≡ length (runs_from b past ds)
unfolding runs_from joined
runs_many a b past [] = refl
runs_many a b past (d ∷ ds) = go (runs_many a b (d + 1) ds) (eqb d past)
  where
    go : length (runs_from a (d + 1) ds) ≡ length (runs_from b (d + 1) ds) → (e : Bool) → length (joined e a past d (λ from. runs_from from (d + 1) ds)) ≡ length (joined e b past d (λ from. runs_from from (d + 1) ds))
    go on true = on
    go on false = refl

runs_same : (first past d : ℕ) (ds : List ℕ) → d ≡ past → runs_from first past (d ∷ ds) ≡ runs_from first (d + 1) ds
unfolding runs_from joined
runs_same first past d ds e = rw (eq-eqb d past e)

runs_new : (first past d : ℕ) (ds : List ℕ) → (d ≡ past → ⊥) → runs_from first past (d ∷ ds) ≡ record { first = first; past = past } ∷ runs_from d (d + 1) ds
unfolding runs_from joined
runs_new first past d ds n = rw (ne_eqb d past n)

cut : (list : List ℕ) (i : ℕ) → i < length list → drop i list ≡ get_or list i 0 ∷ drop (i + 1) list
cut list i h = drop-cons list i 0 h ∙ rw (add-one i)

-- ---- counting: with the run that is open
pub record Counted (list : List ℕ) (runs past i : ℕ) : Type 0 where
  pub within : i ≤ length list
  pub few : runs ≤ i
  pub all : (first : ℕ) → runs + length (runs_from first past (drop i list)) ≡ length (runs_of list) + 1

pub counted_none : (list : List ℕ) → length list ≡ 0 → 0 ≡ length (runs_of list)
unfolding runs_of
counted_none [] h = refl
counted_none (d ∷ ds) h = let bad : ⊥ = omega arith in absurd bad

pub counted_first : (list : List ℕ) → (length list ≡ 0 → ⊥) → Counted list 1 (get_or list 0 0 + 1) 1
unfolding runs_of
counted_first [] h = absurd (h refl)
counted_first (d ∷ ds) h =
    record { within = omega arith; few = omega arith; all = λ first. omega (arith, runs_many first d (d + 1) ds) }

module _ {list : List ℕ} {runs past i : ℕ} (c : Counted list runs past i) (h : i < length list) where
  at_day : (first : ℕ) → length (runs_from first past (drop i list)) ≡ length (runs_from first past (get_or list i 0 ∷ drop (i + 1) list))
  at_day first = ap (λ (ds : List ℕ). length (runs_from first past ds)) (cut list i h)

  pub counted_same : get_or list i 0 ≡ past → Counted list runs (get_or list i 0 + 1) (i + 1)
  counted_same e =
      record {
        within = omega arith;
        few = omega (arith, c.few);
        all = λ first. omega (arith, c.all first, at_day first, ap length (runs_same first past (get_or list i 0) (drop (i + 1) list) e));
      }

  pub counted_new : (get_or list i 0 ≡ past → ⊥) → Counted list (runs + 1) (get_or list i 0 + 1) (i + 1)
  counted_new n =
      record {
        within = omega arith;
        few = omega (arith, c.few);
        all = λ first. omega (arith, c.all first, at_day first, ap length (runs_new first past (get_or list i 0) (drop (i + 1) list) n), runs_many first (get_or list i 0) (get_or list i 0 + 1) (drop (i + 1) list));
      }

pub counted_all : {list : List ℕ} {runs past i : ℕ} → Counted list runs past i → length list ≤ i → runs ≡ length (runs_of list)
unfolding runs_from
counted_all {list} {runs} {past} {i} c h =
    omega (arith, c.all 0, ap (λ (ds : List ℕ). length (runs_from 0 past ds)) (drop_of_length-le list {i = i} h))

pub ruleset counts = (next_day, first_day, counted_none, counted_first, counted_same, counted_new, counted_all, rules)

event_first : (r : Run) (rs : List Run) → written (all_events (r ∷ rs)) ≡ written (event_lines r) ++ written (all_events rs)
unfolding all_events
event_first r rs = written_more (event_lines r) (all_events rs)

-- ---- putting: the events of the runs behind the open one stand from `at` on
runs_some : (first past : ℕ) (ds : List ℕ) → 1 ≤ length (runs_from first past ds)
unfolding runs_from joined
runs_some first past [] = omega arith
runs_some first past (d ∷ ds) = go (runs_some first (d + 1) ds) (eqb d past)
  where
    go : 1 ≤ length (runs_from first (d + 1) ds) → (e : Bool) → 1 ≤ length (joined e first past d (λ from. runs_from from (d + 1) ds))
    go on true = on
    go on false = omega arith

pub record Laid (list : List ℕ) (at : ℕ) (old new : List ℕ) (first past next i : ℕ) : Type 0 where
  pub text : Bytes
  pub put : Put text at old next new
  pub whole : text ++ written (all_events (runs_from first past (drop i list))) ≡ written (all_events (runs_of list))
  pub within : i ≤ length list

module _ (list : List ℕ) (at : ℕ) (old : List ℕ) where
  pub laid_none : length list ≡ 0 → Put (written (all_events (runs_of list))) at old at old
  unfolding runs_of all_events written
  laid_none h = go list h
    where
      go : (xs : List ℕ) → length xs ≡ 0 → Put (written (all_events (runs_of xs))) at old at old
      go [] q = put_none at old
      go (x ∷ xs) q = let bad : ⊥ = omega arith in absurd bad

  pub laid_first : (length list ≡ 0 → ⊥) → Laid list at old old (get_or list 0 0) (get_or list 0 0 + 1) at 1
  unfolding runs_of
  laid_first h = go list h
    where
      go : (xs : List ℕ) → (length xs ≡ 0 → ⊥) → Laid xs at old old (get_or xs 0 0) (get_or xs 0 0 + 1) at 1
      go [] q = absurd (q refl)
      go (x ∷ xs) q = record { text = []; put = put_none at old; whole = refl; within = omega arith }

module _ {list : List ℕ} {at : ℕ} {old new : List ℕ} {first past next i : ℕ} (c : Laid list at old new first past next i) where
  pub laid_room : at + 132 * length (runs_of list) ≤ length old → next + 132 ≤ length new
  laid_room h =
      omega (arith, c.put.ends, c.put.size, length-append c.text (written (all_events (runs_from first past (drop i list)))), ap length c.whole, events_size (runs_from first past (drop i list)), events_size (runs_of list), runs_some first past (drop i list))

  module _ (h : i < length list) where
    pub laid_same : get_or list i 0 ≡ past → Laid list at old new first (get_or list i 0 + 1) next (i + 1)
    laid_same e =
        record {
          text = c.text;
          put = c.put;
          whole = ap (λ (rs : List Run). c.text ++ written (all_events rs)) (sym (goes_on e)) ∙ c.whole;
          within = omega arith;
        }
      where
        goes_on : get_or list i 0 ≡ past → runs_from first past (drop i list) ≡ runs_from first (get_or list i 0 + 1) (drop (i + 1) list)
        goes_on q = rw (cut list i h, runs_same first past (get_or list i 0) (drop (i + 1) list) q)

    pub laid_new : {newer : List ℕ} {end : ℕ} → (get_or list i 0 ≡ past → ⊥) → Put (written (event_lines (record { first = first; past = past }))) next new end newer → Laid list at old newer (get_or list i 0) (get_or list i 0 + 1) end (i + 1)
    laid_new {newer} {end} n p =
        record {
          text = c.text ++ written (event_lines (record { first = first; past = past }));
          put = put_then c.put p;
          whole = append_assoc c.text _ _ ∙ ap (λ (s : Bytes). c.text ++ s) (sym (event_first (record { first = first; past = past }) (runs_from (get_or list i 0) (get_or list i 0 + 1) (drop (i + 1) list))) ∙ ap (λ (rs : List Run). written (all_events rs)) (sym (starts n))) ∙ c.whole;
          within = omega arith;
        }
      where
        starts : (get_or list i 0 ≡ past → ⊥) → runs_from first past (drop i list) ≡ record { first = first; past = past } ∷ runs_from (get_or list i 0) (get_or list i 0 + 1) (drop (i + 1) list)
        starts q = rw (cut list i h, runs_new first past (get_or list i 0) (drop (i + 1) list) q)

  pub laid_last : {newer : List ℕ} {end : ℕ} → length list ≤ i → Put (written (event_lines (record { first = first; past = past }))) next new end newer → Put (written (all_events (runs_of list))) at old end newer
  unfolding runs_from all_events
  laid_last {newer} {end} h p =
      let none : drop i list ≡ [] = drop_of_length-le list {i = i} h in
      let one : c.text ++ written (event_lines (record { first = first; past = past }) ++ []) ≡ written (all_events (runs_of list)) = rw none at c.whole in
      rw (sym one, append-nil (event_lines (record { first = first; past = past }))) (put_then c.put p)

pub ruleset layings = (next_day, first_day, laid_none, laid_first, laid_room, laid_same, laid_new, laid_last, rules)
