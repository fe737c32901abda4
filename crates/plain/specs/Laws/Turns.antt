-- Under Unadjusted a date of the span is as it is: what a candidate does, and what becomes of the date put last.
-- Assumes nothing.
use Rattle.std.specs.Prelude.{ℕ, ◌≤◌, ◌<◌, ◌≡◌, Bool, true, false, List}
use borrow.Author.Tests.{lt-ltb, le-ltb, le-leb, eq-eqb, ne_eqb}
use Rattle.refusal.specs.Answer.{given, need, then}
use Rattle.date.specs.Date.{SPAN_FIRST, SPAN_LAST}
use Rattle.calendar.specs.declared.Convention.TheVariants.{Unadjusted}
use Rattle.calendar.specs.AnyCalendar as any
use Rattle.calendar.specs.Adjust.{in_span, adjusted}
use Rattle.steps.specs.declared.Pace.{Pace}
use Rattle.steps.specs.declared.Seed.{Seed}
use Rattle.steps.specs.Candidates.{past, keep, candidate, is_past, unless_same, unless_past, turn_of}
use Rattle.steps.specs.Generate.{Lists, newest, put, put_unless, put_new}
use Rattle.outcomes.specs.Laws.Span.{InSpan}

module _ (mask : ℕ) (closed : List ℕ) where
  pub stays : (day : ℕ) → InSpan day → adjusted mask closed Unadjusted day ≡ given day
  unfolding any.adjusted in_span any.by_convention need
  stays day s = rw (le-leb SPAN_FIRST day s.low, le-leb day SPAN_LAST s.high)

  -- a candidate is kept, or ends the loop, in either direction
  module _ (back : Bool) (pace : Pace) (seed : Seed) (exit front k day : ℕ) (c : candidate back pace seed k ≡ given day) where
    pub candidate_keeps : is_past back exit day ≡ false → InSpan front → InSpan day → (front ≡ day → ⊥) → turn_of mask closed Unadjusted back pace seed exit front k ≡ given (keep day)
    unfolding turn_of unless_past unless_same then
    candidate_keeps h s s' n = rw (c, h, stays front s, stays day s', ne_eqb front day n)

    pub candidate_ends : is_past back exit day ≡ true → turn_of mask closed Unadjusted back pace seed exit front k ≡ given past
    unfolding turn_of unless_past then
    candidate_ends h = rw (c, h)

  module _ (pace : Pace) (seed : Seed) (exit front k day : ℕ) (c : candidate true pace seed k ≡ given day) where
    pub turn_keeps : exit ≤ day → InSpan front → InSpan day → (front ≡ day → ⊥) → turn_of mask closed Unadjusted true pace seed exit front k ≡ given (keep day)
    unfolding is_past
    turn_keeps h = candidate_keeps true pace seed exit front k day c (le-ltb day exit h)

    pub turn_ends : day < exit → turn_of mask closed Unadjusted true pace seed exit front k ≡ given past
    unfolding is_past
    turn_ends h = candidate_ends true pace seed exit front k day c (lt-ltb day exit h)

  module _ (room day : ℕ) (l : Lists) (s : InSpan (newest l)) (s' : InSpan day) where
    pub new_same : newest l ≡ day → put_new mask closed Unadjusted room day day 0 l ≡ given l
    unfolding put_new put_unless then
    new_same h = rw (stays (newest l) s, stays day s', eq-eqb (newest l) day h)

    pub new_put : (newest l ≡ day → ⊥) → put_new mask closed Unadjusted room day day 0 l ≡ put room day 0 l
    unfolding put_new put_unless then
    new_put h = rw (stays (newest l) s, stays day s', ne_eqb (newest l) day h)
