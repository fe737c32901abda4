-- The calendar's steps from a day well inside 1800 to 2399 are refused with 13 if at all, and lead to a day at most 31 days off; under Unadjusted
-- there is no search.
-- Assumes nothing.
use Prim.Native.Nat.{ℕ, zero, suc, ◌+◌, ◌≤◌}
use Rattle.std.specs.Prelude.{◌≡◌, Bool, not, List}
use Rattle.std.proofs.Math.Path.{refl}
use Rattle.std.proofs.Common.{ap, ◌∙◌, le-leb}
use Rattle.std.proofs.Math.Bool.{true, false}
use native.Mathlib.Omega.{arith}
use Rattle.refusal.specs.Answer.{given, BOOK, CLOSED}
use Rattle.refusal.specs.Laws.Answers.{need_given, one_given, then_stepped}
use Rattle.date.specs.Date.{SPAN_FIRST, SPAN_LAST, within_span, step}
use Rattle.date.specs.Laws.Moves.{span_in, step_le}
use Rattle.calendar.specs.declared.Convention.{Convention}
use Rattle.calendar.specs.declared.Convention.TheVariants.{Unadjusted, Following, ModifiedFollowing, Preceding, ModifiedPreceding}
use Rattle.calendar.specs.Open.{is_open_day}
use Rattle.calendar.specs.AnyCalendar as any
use Rattle.calendar.specs.Adjust.{convention_number, in_span, taken_or, first_open, found, same_month, unless_left, modified, by_convention, adjusted}
use Rattle.calendar.specs.Laws.Search.{found_first}
use Rattle.outcomes.specs.Laws.Span.{span_is}
use Rattle.outcomes.specs.Late.{by_search, Fine, gives, refuses, steps, weaker, tested}

pub record Close (n day r : ℕ) : Type 0 where
  pub low : day ≤ r + n
  pub high : r ≤ day + n

-- 31 days within the span
pub record Wide (day : ℕ) : Type 0 where
  pub low : 657103 ≤ day
  pub high : day ≤ 876185

-- a convention other than Unadjusted searches
abbrev pub Asks : Type 0 → Convention → Type 0
Asks c convention = (convention ≡ Unadjusted → ⊥) → c

pub adjusts : (convention : Convention) → 1 ≤ convention_number convention → convention ≡ Unadjusted → ⊥
unfolding convention_number
adjusts convention h e = omega (arith, ap convention_number e)

next_close : (back : Bool) (day : ℕ) → Close 1 day (step back day 1)
unfolding step
next_close true day = record { low = omega arith; high = omega arith }
next_close false day = record { low = omega arith; high = omega arith }

pub wide_span : (day : ℕ) → Wide day → in_span day ≡ true
unfolding in_span
wide_span day w = rw (le-leb SPAN_FIRST day (omega (arith, w.low)), le-leb day SPAN_LAST (omega (arith, w.high))) refl

module _ {c : Type 0} where
  pub within_fine : {P : ℕ → Type 0} (r : ℕ) → SPAN_FIRST ≤ r → r ≤ SPAN_LAST → P r → Fine c P (within_span r)
  within_fine r a b h = rw (← span_in r a b) (gives r h)

  module _ (mask : ℕ) (closed : List ℕ) where
    -- ---- where there may be a search
    module _ (s : c) where
      open_fine : (back : Bool) (left day : ℕ) → Fine c (Close left day) (first_open mask closed back left day)
      unfolding any.first_open taken_or
      open_fine back zero day = refuses CLOSED (by_search s refl)
      open_fine back (suc left) day = by (is_open_day mask closed day) (open_fine back left (step back day 1))
        where
          by : (b : Bool) → Fine c (Close left (step back day 1)) (first_open mask closed back left (step back day 1)) → Fine c (Close (suc left) day) (taken_or b day (λ passed. first_open mask closed back left (step back passed 1)))
          by true u = gives day (record { low = omega arith; high = omega arith })
          by false u = weaker u (λ r i. record { low = omega (arith, i.low, (next_close back day).low, (next_close back day).high); high = omega (arith, i.high, (next_close back day).low, (next_close back day).high) })

      found_fine : (back : Bool) (day : ℕ) → Wide day → Fine c (Close 31 day) (found mask closed back day)
      unfolding any.found
      found_fine back day w = steps _ (open_fine back 31 day) (λ r i. within_fine r (omega (arith, w.low, i.low)) (omega (arith, w.high, i.high)) i)

      modified_fine : (back : Bool) (day : ℕ) → Wide day → Fine c (Close 31 day) (modified mask closed back day)
      unfolding any.modified unless_left
      modified_fine back day w = steps _ (found_fine back day w) (λ new i. by (same_month day new) new i)
        where
          by : (b : Bool) (new : ℕ) → Close 31 day new → Fine c (Close 31 day) (unless_left b day new (found mask closed (not back)))
          by true new i = gives new i
          by false new i = found_fine (not back) day w

    -- ---- by convention
    by_fine : (convention : Convention) (day : ℕ) → Asks c convention → Wide day → Fine c (Close 31 day) (by_convention mask closed convention day)
    unfolding any.by_convention convention_number
    by_fine Unadjusted day a w = gives day (record { low = omega arith; high = omega arith })
    by_fine Following day a w = found_fine (a (adjusts Following (omega arith))) false day w
    by_fine ModifiedFollowing day a w = modified_fine (a (adjusts ModifiedFollowing (omega arith))) false day w
    by_fine Preceding day a w = found_fine (a (adjusts Preceding (omega arith))) true day w
    by_fine ModifiedPreceding day a w = modified_fine (a (adjusts ModifiedPreceding (omega arith))) true day w

    pub adjusted_fine : (convention : Convention) (day : ℕ) → Asks c convention → Wide day → Fine c (Close 31 day) (adjusted mask closed convention day)
    unfolding any.adjusted
    adjusted_fine convention day a w = tested (in_span day) (wide_span day w) (by_fine convention day a w)

-- ---- a search goes 30 days on at most
module _ (mask : ℕ) (closed : List ℕ) (day r : ℕ) where
  found_near : (back : Bool) → found mask closed back day ≡ given r → r ≤ day + 30
  unfolding any.found
  found_near back h =
      let s = then_stepped (first_open mask closed back 31 day) within_span r h in
      let f = found_first (is_open_day mask closed) back 31 day s.value s.from in
      omega (arith, (span_is s.value r s.to).2, f.few, step_le s.value back day f.steps f.there)

  modified_near : (back : Bool) → modified mask closed back day ≡ given r → r ≤ day + 30
  unfolding any.modified unless_left
  modified_near back h = let s = then_stepped (found mask closed back day) _ r h in by s.value (same_month day s.value) s.from s.to
    where
      by : (new : ℕ) (b : Bool) → found mask closed back day ≡ given new → unless_left b day new (found mask closed (not back)) ≡ given r → r ≤ day + 30
      by new true f e = found_near back (f ∙ e)
      by new false f e = found_near (not back) e

  by_near : (convention : Convention) → by_convention mask closed convention day ≡ given r → r ≤ day + 30
  unfolding any.by_convention
  by_near Unadjusted h = let e = one_given (given day) day r refl h in omega arith
  by_near Following h = found_near false h
  by_near ModifiedFollowing h = modified_near false h
  by_near Preceding h = found_near true h
  by_near ModifiedPreceding h = modified_near true h

  pub adjusted_near : (convention : Convention) → adjusted mask closed convention day ≡ given r → r ≤ day + 30
  unfolding any.adjusted
  adjusted_near convention h = by_near convention (need_given BOOK (in_span day) _ r h).1
