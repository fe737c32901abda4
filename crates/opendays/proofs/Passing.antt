-- One step along the closed dates before a day, and what the dates of a stretch leave of its days.
-- Assumes nothing.
use Prim.Native.Nat.{ℕ, ◌+◌, ◌-◌, ◌≤◌, ◌<◌}
use mathlib.Core.Path.{◌≡◌, refl, sym, ap, ◌∙◌}
use mathlib.Core.Bool.{Bool, true, false}
use mathlib.Core.List.{List, [], ◌∷◌}
use native.Mathlib.Numerals.{add-one}
use native.Mathlib.Omega.{arith}
use lib.ListN.{length, get_or, drop, drop_of_length-le}
use lib.Seq.{drop-cons}
use borrow.Author.Rules.{rules}
use borrow.Author.Tests.{lt-ltb, le-ltb}
use Rattle.calendar.specs.Open.{weekly_closed, is_open_day, calendar_ok}
use Rattle.calendar.specs.Laws.Kept.{checked_keeps}
use Rattle.calendar.specs.Inner.Places.{LowerBound}
use Rattle.calendar.specs.Laws.Told.{ok_closed}
use Rattle.opendays.specs.declared.listed.Passed.{Passed}
use Rattle.opendays.specs.Count.{tally, weekly_open, open_between}
use Rattle.opendays.specs.Inner.Steps.{counted_by, listed_before, unless_before, listed_from, PassedBy, Rest, Stretch}
use Rattle.opendays.specs.Laws.Listed.{weekly_is, listed_only, listed_days, rest_on, rest_bound}

-- ---- the head of the list that is left
step_weekly : (mask to x : ℕ) (xs : List ℕ) → x < to → weekly_closed mask x ≡ true → listed_before mask to (x ∷ xs) ≡ listed_before mask to xs
unfolding listed_before counted_by
step_weekly mask to x xs h e = rw (lt-ltb x to h, e)

step_counts : (mask to x : ℕ) (xs : List ℕ) → x < to → weekly_closed mask x ≡ false → listed_before mask to (x ∷ xs) ≡ 1 + listed_before mask to xs
unfolding listed_before counted_by
step_counts mask to x xs h e = rw (lt-ltb x to h, e)

step_stop : (mask to x : ℕ) (xs : List ℕ) → to ≤ x → listed_before mask to (x ∷ xs) ≡ 0
unfolding listed_before counted_by
step_stop mask to x xs h = rw (le-ltb x to h)

step_none : (mask to : ℕ) → listed_before mask to [] ≡ 0
unfolding listed_before
step_none mask to = refl

from_past : (to x : ℕ) (xs : List ℕ) → x < to → listed_from to (x ∷ xs) ≡ listed_from to xs
unfolding listed_from unless_before
from_past to x xs h = rw (lt-ltb x to h)

from_stop : (to x : ℕ) (xs : List ℕ) → to ≤ x → listed_from to (x ∷ xs) ≡ x ∷ xs
unfolding listed_from unless_before
from_stop to x xs h = rw (le-ltb x to h)

from_none : (to : ℕ) → listed_from to [] ≡ []
unfolding listed_from
from_none to = refl

-- ---- the same at a place of the closed list
module _ (mask to : ℕ) (closed : List ℕ) (place : ℕ) where
  head_is : place < length closed → drop place closed ≡ get_or closed place 0 ∷ drop (place + 1) closed
  head_is h = drop-cons closed place 0 h ∙ ap (λ (k : ℕ). get_or closed place 0 ∷ drop k closed) (sym (add-one place))

  pub at_weekly : place < length closed → get_or closed place 0 < to → weekly_closed mask (get_or closed place 0) ≡ true → listed_before mask to (drop place closed) ≡ listed_before mask to (drop (place + 1) closed)
  at_weekly h l e = ap (listed_before mask to) (head_is h) ∙ step_weekly mask to (get_or closed place 0) (drop (place + 1) closed) l e

  pub at_counts : place < length closed → get_or closed place 0 < to → weekly_closed mask (get_or closed place 0) ≡ false → listed_before mask to (drop place closed) ≡ 1 + listed_before mask to (drop (place + 1) closed)
  at_counts h l e = ap (listed_before mask to) (head_is h) ∙ step_counts mask to (get_or closed place 0) (drop (place + 1) closed) l e

  pub at_stop : place < length closed → to ≤ get_or closed place 0 → listed_before mask to (drop place closed) ≡ 0
  at_stop h l = ap (listed_before mask to) (head_is h) ∙ step_stop mask to (get_or closed place 0) (drop (place + 1) closed) l

  pub at_end_lem : length closed ≤ place → listed_before mask to (drop place closed) ≡ 0
  at_end_lem h = ap (listed_before mask to) (drop_of_length-le closed h) ∙ step_none mask to

  past : place < length closed → get_or closed place 0 < to → listed_from to (drop place closed) ≡ listed_from to (drop (place + 1) closed)
  past h l = ap (listed_from to) (head_is h) ∙ from_past to (get_or closed place 0) (drop (place + 1) closed) l

  stop : place < length closed → to ≤ get_or closed place 0 → drop place closed ≡ listed_from to (drop place closed)
  stop h l = sym (ap (listed_from to) (head_is h) ∙ from_stop to (get_or closed place 0) (drop (place + 1) closed) l ∙ sym (head_is h))

  ends : length closed ≤ place → drop place closed ≡ listed_from to (drop place closed)
  ends h = drop_of_length-le closed h ∙ sym (ap (listed_from to) (drop_of_length-le closed h) ∙ from_none to)

-- ---- passing the dates before a day
pub record Passing (mask : ℕ) (closed : List ℕ) (from to place count : ℕ) : Type 0 where
  pub within : place ≤ length closed
  pub few : length closed ≤ 4096
  pub small : count ≤ place
  pub counted : count + listed_before mask to (drop place closed) ≡ listed_before mask to (drop from closed)
  pub same : listed_from to (drop place closed) ≡ listed_from to (drop from closed)

pub pass_start : {mask : ℕ} {closed : List ℕ} {from to : ℕ} → from ≤ length closed → length closed ≤ 4096 → Passing mask closed from to from 0
pass_start h l = record { within = h; few = l; small = omega arith; counted = omega arith; same = refl }

module _ {mask : ℕ} {closed : List ℕ} {from to place count : ℕ} (g : Passing mask closed from to place count) where
  pub pass_weekly : {w : Bool} → place < length closed → get_or closed place 0 < to → w ≡ weekly_closed mask (get_or closed place 0) → w ≡ true → Passing mask closed from to (place + 1) count
  pass_weekly h l p e =
      record {
        within = omega arith;
        few = g.few;
        small = omega (arith, g.small);
        counted = omega (arith, g.counted, at_weekly mask to closed place h l (sym p ∙ e));
        same = sym (past mask to closed place h l) ∙ g.same;
      }

  pub pass_counts : {w : Bool} → place < length closed → get_or closed place 0 < to → w ≡ weekly_closed mask (get_or closed place 0) → w ≡ false → Passing mask closed from to (place + 1) (count + 1)
  pass_counts h l p e =
      record {
        within = omega arith;
        few = g.few;
        small = omega (arith, g.small);
        counted = omega (arith, g.counted, at_counts mask to closed place h l (sym p ∙ e));
        same = sym (past mask to closed place h l) ∙ g.same;
      }

  pub pass_stop : place < length closed → to ≤ get_or closed place 0 → PassedBy mask to closed (drop from closed) (record { place = place; count = count })
  pass_stop h l =
      record {
        within = g.within;
        count = omega (arith, g.counted, at_stop mask to closed place h l);
        rest = stop mask to closed place h l ∙ g.same;
      }

  pub pass_end : length closed ≤ place → PassedBy mask to closed (drop from closed) (record { place = length closed; count = count })
  pass_end h =
      let e : length closed ≡ place = omega (arith, g.within) in
      record {
        within = omega arith;
        count = omega (arith, g.counted, at_end_lem mask to closed place h);
        rest = rw e (ends mask to closed place h ∙ g.same);
      }

pub ruleset passing = (pass_start, pass_weekly, pass_counts, pass_stop, pass_end, rules)

-- ---- a stretch: the days that are not weekly closed, less the dates that were passed, are the open days
pub sound_few : (mask : ℕ) (closed : List ℕ) → calendar_ok mask closed ≡ true → length closed ≤ 4096
sound_few mask closed ok = (checked_keeps closed (ok_closed mask closed ok)).few

pub in_span_lem : (day : ℕ) → day ≤ 876216 → day ≤ 876217
in_span_lem day h = omega arith

module _ (mask : ℕ) (closed : List ℕ) (from to : ℕ) (at : ℕ) (h : from ≤ to) (r : Rest closed (drop at closed) from) {p : Passed} (b : PassedBy mask to closed (drop at closed) p) where
  dates_are : p.count ≡ tally (listed_only mask closed) from (to - from)
  dates_are =
      let e : from + (to - from) ≡ to = omega arith in
      b.count ∙ ap (λ (k : ℕ). listed_before mask k (drop at closed)) (sym e) ∙ listed_days mask closed (to - from) from (drop at closed) r

  parts : tally (weekly_open mask) from (to - from) ≡ open_between mask closed from to + p.count
  unfolding open_between
  parts =
      weekly_is mask closed from (to - from)
      ∙ ap (λ (k : ℕ). tally (is_open_day mask closed) from (to - from) + k) (sym dates_are)

  pub stretch_less : (weekly : ℕ) → weekly ≡ tally (weekly_open mask) from (to - from) → p.count ≤ weekly
  stretch_less weekly e = omega (arith, parts)

  pub stretch_is : (weekly : ℕ) → weekly ≡ tally (weekly_open mask) from (to - from) → Stretch mask closed from to (record { place = p.place; count = weekly - p.count })
  stretch_is weekly e =
      record {
        within = b.within;
        count = omega (arith, parts);
        rest = rw b.rest (rest_on from to (drop at closed) h r);
      }

pub stretch_start : (mask x : ℕ) (closed : List ℕ) (at : ℕ) → calendar_ok mask closed ≡ true → 657072 ≤ x → LowerBound closed x at → Rest closed (drop at closed) x
stretch_start mask x closed at ok h b = rest_bound (ok_closed mask closed ok) h b

pub stretch_count : {mask : ℕ} {closed : List ℕ} {from to : ℕ} {p : Passed} → Stretch mask closed from to p → p.count ≡ open_between mask closed from to
stretch_count s = s.count

pub ruleset stretching = (sound_few, in_span_lem, stretch_less, stretch_is, stretch_start, stretch_count, rules)
