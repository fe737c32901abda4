use Rattle.std.proofs.Common.{◌∙◌}
use Rattle.calendar.specs.Laws.Conventions.{modified_kept, modified_left, modified_refused}
use Rattle.calendar.specs.Laws.Search.{as_search}
use Rattle.calendar.specs.AnyCalendar.{found}
use Rattle.date.specs.Laws.Made.{day_handed_on}
use Rattle.calendar.proofs.conventions.modified.Goals as goal

pub returns-in_err-found : goal.returns-in_err-found
unfolding found
returns-in_err-found c =
    λ ok. day_handed_on _ _ c.from_residual.ensures ∙ modified_refused _ _ _ _ (c.look.ensures ok ∙ as_search _ _ _) _ c.in_err-found.was

pub returns-then-same_month : goal.returns-then-same_month
unfolding found
returns-then-same_month c =
    let found = c.in_ok-found.was in
    λ ok. modified_kept _ _ _ _ (c.look.ensures ok ∙ as_search _ _ _) _ _ found c.same_month.ensures c.if-same_month.true

pub returns : goal.returns
unfolding found
returns c =
    let found = c.in_ok-found.was in
    λ ok. modified_left _ _ _ _ (c.look.ensures ok ∙ as_search _ _ _) _ _ _ found c.same_month.ensures c.if-same_month.false
    (c.look-2.ensures ok ∙ as_search _ _ _)
