use Rattle.refusal.specs.Laws.Answers.{handed}
use Rattle.calendar.proofs.Ways.{follow_known, follow_left, follow_refused, follow_split}
use Rattle.calendar.specs.AnyCalendar.{towards}
use Rattle.calendar.proofs.search.follow_near.Goals as goal

pub returns-then-is_known : goal.returns-then-is_known
unfolding towards
returns-then-is_known c =
    let found = c.in_ok-later.was in
    λ ok m. follow_known _ _ _ _ (c.look.ensures ok) _ found _ m _ c.is_known.ensures c.if-is_known.true

pub returns-then-from-day : goal.returns-then-from-day
unfolding towards
returns-then-from-day c =
    let found = c.in_ok-later.was in
    λ ok m. follow_split _ _ _ _ (c.look.ensures ok) _ found _ c.month_start-from.ensures _ c.if-from-day.true

pub returns : goal.returns
unfolding towards
returns c =
    let found = c.in_ok-later.was in
    λ ok m. follow_left _ _ _ _ (c.look.ensures ok) _ found _ c.month_start-from.ensures _ _ m c.if-from-day.false _ (c.look-2.ensures ok) _ c.with_near.ensures

pub returns-in_err-later : goal.returns-in_err-later
unfolding towards
returns-in_err-later c =
    λ ok m. rw (handed _ _ c.from_residual.ensures) (follow_refused _ _ _ _ (c.look.ensures ok) _ c.in_err-later.was)
