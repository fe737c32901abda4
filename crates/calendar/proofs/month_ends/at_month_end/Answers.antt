use Rattle.std.proofs.Common.{Bool, ap, not, sym, ◌∙◌}
use Rattle.calendar.specs.AnyCalendar.{at_month_end, towards}
use Rattle.calendar.specs.Laws.Conventions.{following_one, span_one}
use Rattle.calendar.specs.Laws.Guards.{cleared}
use Rattle.date.specs.Date.{step}
use Rattle.refusal.specs.Answer.{given}
use Rattle.refusal.specs.Laws.Answers.{handed_on, then_given, then_refused}
use Rattle.date.specs.Laws.Made.{given_day, refused_day}
use Rattle.calendar.proofs.month_ends.at_month_end.Goals as goal

pub returns-in_err-open : goal.returns-in_err-open
unfolding at_month_end towards step
returns-in_err-open c =
    λ ok. handed_on _ _ c.from_residual.ensures
    ∙ cleared _ _ _ _ _ c.in_span.ensures (ap not c.if-not-in_span.false)
    (then_refused _ _ _ (refused_day _ _ _ (c.neighbour.ensures ok) c.in_err-open.was))

pub returns : goal.returns
unfolding at_month_end towards step
returns c =
    let day = c.in_ok-open.«open».day in
    λ ok. let found = given_day _ _ _ (c.neighbour.ensures ok) c.in_ok-open.was in
    let same = c.same_month.ensures (span_one _ (sym c.in_span.ensures ∙ c.if-not-in_span.false)) (following_one _ _ day found) in
    cleared _ _ _ _ _ c.in_span.ensures (ap not c.if-not-in_span.false)
    (then_given _ day _ _ found (ap (λ (b : Bool). given (not b)) same))
