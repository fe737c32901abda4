-- One law for each way through the functions over the counts.
-- Assumes nothing.
use Prim.Native.Nat.{ℕ, zero, suc, ◌+◌, ◌-◌, ◌*◌, ◌/◌, ◌≤◌, ◌<◌}
use mathlib.Core.Path.{◌≡◌, refl, sym, ap, ◌∙◌}
use mathlib.Core.Bool.{Bool, true, false}
use mathlib.Core.List.{List}
use native.Mathlib.Omega.{arith}
use lib.Dec.{leb}
use lib.ListN.{length, get_or}
use mir.Syntax.{w32}
use mir.Val.{Fits}
use borrow.Author.Rules.{rules}
use borrow.Author.Tests.{lt-ltb, le-ltb, leb-true}
use Rattle.refusal.specs.Laws.Answers.{both}
use Rattle.date.specs.declared.Fields.{Fields}
use Rattle.date.specs.Civil.{gone, years_gone, fields_at, fields_of}
use Rattle.date.specs.Date.{in_book}
use Rattle.opendays.specs.Count.{open_between}
use Rattle.opendays.specs.Index.{MOST, year_start, place_of, count_in, rank_by, count_by, year_before, stepped}
use Rattle.opendays.specs.Inner.Steps.{Halved}
use Rattle.opendays.specs.Laws.Halving.{turn_up, turn_down, turn_end}
use Rattle.opendays.specs.Laws.Index.{between_few}
use Rattle.opendays.specs.Laws.Years.{start_is, start_from, start_next, years_from, place_low, place_high, place_to}

-- ---- years
pub start_sum : (place : ℕ) → 365 * (1799 + place) + (1799 + place) / 4 + (1799 + place) / 400 - (1799 + place) / 100 + 1 ≡ year_start place
unfolding gone
start_sum place = sym (start_is place)

pub year_low : (day : ℕ) (f : Fields) → 657072 ≤ day → f ≡ fields_of day → 1800 ≤ f.year
unfolding fields_at
year_low day f h e = let y : f.year ≡ years_gone (day - 1) + 1 = ap (λ (x : Fields). x.year) e in omega (arith, years_from day h)

pub place_is : (day : ℕ) (f : Fields) → f ≡ fields_of day → f.year - 1800 ≡ place_of day
unfolding place_of
place_is day f e = ap (λ (x : Fields). x.year - 1800) e

pub ruleset years = (start_sum, year_low, place_is, rules)

-- ---- a count as it is read
pub count_low : (index : List ℕ) (place : ℕ) → get_or index place 0 < MOST → get_or index place 0 ≡ count_in index place
unfolding count_in
count_low index place h = omega arith

pub count_high : (index : List ℕ) (place : ℕ) → MOST ≤ get_or index place 0 → MOST ≡ count_in index place
unfolding count_in
count_high index place h = omega arith

pub count_most : (index : List ℕ) (place : ℕ) → count_in index place ≤ MOST
unfolding count_in
count_most index place = omega arith

pub ruleset reading = (count_low, count_high, rules)

-- ---- one more or one less
module _ (up : Bool) (count : ℕ) where
  pub step_up : up ≡ true → count < MOST → count + 1 ≡ stepped up count
  unfolding stepped
  step_up e h = sym (rw (e, lt-ltb count MOST h))

  pub step_top : up ≡ true → MOST ≤ count → count ≡ stepped up count
  unfolding stepped
  step_top e h = sym (rw (e, le-ltb count MOST h))

  pub step_zero : up ≡ false → count ≡ 0 → 0 ≡ stepped up count
  unfolding stepped
  step_zero e h = sym (rw (e, h))

  pub step_down : up ≡ false → (count ≡ 0 → ⊥) → count - 1 ≡ stepped up count
  unfolding stepped
  step_down e h = sym (rw e)

pub ruleset step_one = (step_up, step_top, step_zero, step_down, rules)

-- ---- the rank of a day
module _ (mask : ℕ) (closed index : List ℕ) (day : ℕ) (place : ℕ) (from : 657072 ≤ day) (to : day ≤ 876216) (p : place ≡ place_of day) where
  pub rank_place : length index ≡ 601 → place < length index
  rank_place h = omega (arith, place_to day from to)

  pub rank_year : place ≤ 600
  rank_year = omega (arith, place_to day from to)

  module _ (start : ℕ) (s : start ≡ year_start place) where
    starts : start ≡ year_start (place_of day)
    starts = s ∙ ap year_start p

    pub rank_from : 657072 ≤ start
    rank_from = omega (arith, starts, start_from (place_of day))

    pub rank_low : start ≤ day
    rank_low = omega (arith, starts, place_low day from)

    pub rank_near : day ≤ start + 400
    rank_near = omega (arith, starts, place_high day from, start_next (place_of day))

    module _ (count open-days : ℕ) (c : count ≡ count_in index place) (o : open-days ≡ open_between mask closed start day) where
      pub rank_fits : Fits w32 (count + open-days)
      rank_fits = record { fits = omega (arith, count_most index place, between_few mask closed start day) }

      pub rank_is : count + open-days ≡ rank_by mask closed index day
      unfolding rank_by
      rank_is = rw (c, o, starts, p)

pub ruleset ranking = (rank_place, rank_year, rank_from, rank_low, rank_near, rank_fits, rank_is, rules)

pub rank_most : (mask : ℕ) (closed index : List ℕ) (day : ℕ) → 657072 ≤ day → rank_by mask closed index day ≤ MOST + 366
unfolding rank_by
rank_most mask closed index day h =
    omega (arith, count_most index (place_of day), between_few mask closed (year_start (place_of day)) day, place_high day h, start_next (place_of day))

-- ---- two days of the book
module _ (day : ℕ) (h : in_book day ≡ true) where
  pub book_from : 657072 ≤ day
  unfolding in_book
  book_from = omega (arith, leb-true 693961 day (both (leb 693961 day) _ h).0)

  pub book_to : day < 876216
  unfolding in_book
  book_to = omega (arith, leb-true day 803168 (both (leb 693961 day) _ h).1)

  pub book_in : day ≤ 876216
  book_in = omega (arith, book_to)

module _ (mask : ℕ) (closed index : List ℕ) (first last : ℕ) where
  pub between_reversed : last ≤ first → 0 ≡ count_by mask closed index first last
  unfolding count_by
  between_reversed h = sym (rw (le-ltb first last h))

  module _ (a b : ℕ) (h : first < last) (p : a ≡ rank_by mask closed index first) (q : b ≡ rank_by mask closed index last) where
    by_ranks : b - a ≡ count_by mask closed index first last
    unfolding count_by
    by_ranks = sym (rw (lt-ltb first last h, p, q))

    pub between_falls : b < a → 0 ≡ count_by mask closed index first last
    between_falls l = let z : b - a ≡ 0 = omega arith in sym z ∙ by_ranks

    pub between_rises : a ≤ b → b - a ≡ count_by mask closed index first last
    between_rises l = by_ranks

pub ruleset counting = (book_from, book_in, between_reversed, between_falls, between_rises, rules)

-- ---- a place by halving
pub record Halving (index : List ℕ) (rank from lo hi : ℕ) : Type 0 where
  pub sized : length index ≡ 601
  pub order : lo < hi
  pub low : from ≤ lo
  pub high : hi ≤ 600
  pub below : count_in index lo < rank
  pub left : ℕ
  pub enough : hi ≤ lo + left
  pub same : year_before index rank left lo hi ≡ year_before index rank 600 from 600

pub halving_start : {index : List ℕ} {rank from : ℕ} → length index ≡ 601 → from < 600 → count_in index from < rank → Halving index rank from from 600
halving_start l h b = record { sized = l; order = h; low = omega arith; high = omega arith; below = b; left = 600; enough = omega arith; same = refl }

module _ {index : List ℕ} {rank from lo hi : ℕ} (g : Halving index rank from lo hi) where
  pub halving_up : {c : ℕ} → lo + 1 < hi → c ≡ count_in index (lo + (hi - lo) / 2) → c < rank → Halving index rank from (lo + (hi - lo) / 2) hi
  halving_up h e l = by g.left g.enough g.same
    where
      by : (left : ℕ) → hi ≤ lo + left → year_before index rank left lo hi ≡ year_before index rank 600 from 600 → Halving index rank from (lo + (hi - lo) / 2) hi
      by zero n s = let bad : ⊥ = omega arith in absurd bad
      by (suc left) n s =
          record {
            sized = g.sized;
            order = omega arith;
            low = omega (arith, g.low);
            high = g.high;
            below = omega arith;
            left = left;
            enough = omega arith;
            same = sym (turn_up index rank left lo hi h (omega arith)) ∙ s;
          }

  pub halving_down : {c : ℕ} → lo + 1 < hi → c ≡ count_in index (lo + (hi - lo) / 2) → rank ≤ c → Halving index rank from lo (lo + (hi - lo) / 2)
  halving_down h e l = by g.left g.enough g.same
    where
      by : (left : ℕ) → hi ≤ lo + left → year_before index rank left lo hi ≡ year_before index rank 600 from 600 → Halving index rank from lo (lo + (hi - lo) / 2)
      by zero n s = let bad : ⊥ = omega arith in absurd bad
      by (suc left) n s =
          record {
            sized = g.sized;
            order = omega arith;
            low = g.low;
            high = omega (arith, g.high);
            below = g.below;
            left = left;
            enough = omega arith;
            same = sym (turn_down index rank left lo hi h (omega arith)) ∙ s;
          }

  pub halving_end : hi ≤ lo + 1 → Halved index rank from lo
  halving_end h =
      record {
        same = sym (turn_end index rank g.left lo hi h) ∙ g.same;
        low = g.low;
        high = omega (arith, g.order, g.high);
        below = g.below;
      }

pub ruleset halving = (halving_start, halving_up, halving_down, halving_end, rules)
