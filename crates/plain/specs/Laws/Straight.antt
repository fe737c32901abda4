-- A straight request is plain under Backward, and has its mirror's words under Forward.
-- Assumes nothing.
use Rattle.std.specs.Prelude.{◌≡◌, refl, true, false, not, eqb, ltb}
use Rattle.std.proofs.lemmas.Bool.{false≢true, not-true}
use Rattle.std.proofs.Common.{eqb-true, eq-eqb, ltb-true, lt-ltb}
use Rattle.refusal.specs.Laws.Answers.{both}
use Rattle.calendar.specs.declared.Convention.{Convention}
use Rattle.calendar.specs.declared.Convention.TheVariants.{Unadjusted, Following, ModifiedFollowing, Preceding, ModifiedPreceding}
use Rattle.steps.specs.declared.Rule.TheVariants.{Backward, Forward}
use Rattle.steps.specs.declared.Request.{Request}
use Rattle.period.specs.Period.{is_positive}
use Rattle.plain.specs.PlainTests.{is_unadjusted, is_straight}
use Rattle.plain.specs.Demand.{Plain}
use Rattle.plain.specs.Forward.{PlainForward}

unadjusted : (c : Convention) → is_unadjusted c ≡ true → c ≡ Unadjusted
unfolding is_unadjusted
unadjusted Unadjusted e = refl
unadjusted Following e = absurd (false≢true e)
unadjusted ModifiedFollowing e = absurd (false≢true e)
unadjusted Preceding e = absurd (false≢true e)
unadjusted ModifiedPreceding e = absurd (false≢true e)

-- the tests together, and each by itself
record Tests (q : Request) : Type 0 where
  positive : is_positive q.tenor.length ≡ true
  convention : q.convention ≡ Unadjusted
  terminal : q.terminal ≡ Unadjusted
  monthend : q.monthend ≡ false
  first : q.first.day ≡ 0
  penultimate : q.penultimate.day ≡ 0
  order : ltb q.effective.day q.termination.day ≡ true

tests : (q : Request) → is_straight q ≡ true → Tests q
unfolding is_straight
tests q h =
    let a = both (is_positive q.tenor.length) _ h in
    let b = both (is_unadjusted q.convention) _ a.1 in
    let c = both (is_unadjusted q.terminal) _ b.1 in
    let d = both (not q.monthend) _ c.1 in
    let e = both (eqb q.first.day 0) _ d.1 in
    let f = both (eqb q.penultimate.day 0) _ e.1 in
    record {
      positive = a.0;
      convention = unadjusted q.convention b.0;
      terminal = unadjusted q.terminal c.0;
      monthend = not-true q.monthend d.0;
      first = eqb-true q.first.day 0 e.0;
      penultimate = eqb-true q.penultimate.day 0 f.0;
      order = f.1;
    }

pub straight_plain : (q : Request) → q.rule ≡ Backward → is_straight q ≡ true → Plain q
straight_plain q r h =
    let t = tests q h in
    record { backward = r; positive = t.positive; no_first = t.first; no_penultimate = t.penultimate; unadjusted = t.convention; unadjusted_last = t.terminal; no_month_end = t.monthend; order = ltb-true q.effective.day q.termination.day t.order }

pub straight_forward : (q : Request) → q.rule ≡ Forward → is_straight q ≡ true → PlainForward q
straight_forward q r h =
    let t = tests q h in
    record { forward = r; positive = t.positive; no_first = t.first; no_penultimate = t.penultimate; unadjusted = t.convention; unadjusted_last = t.terminal; no_month_end = t.monthend; order = ltb-true q.effective.day q.termination.day t.order }

pub plain_straight : (q : Request) → Plain q → is_straight q ≡ true
unfolding is_straight is_unadjusted
plain_straight q p = rw (p.positive, p.unadjusted, p.unadjusted_last, p.no_month_end, eq-eqb q.first.day 0 p.no_first, eq-eqb q.penultimate.day 0 p.no_penultimate, lt-ltb q.effective.day q.termination.day p.order)
