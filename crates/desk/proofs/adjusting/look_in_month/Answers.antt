use Rattle.std.proofs.Common.{◌∙◌}
use Rattle.date.specs.Laws.Made.{day_handed_on}
use Rattle.calendar.specs.Laws.Conventions.{modified_kept, modified_left, modified_refused}
use Rattle.desk.proofs.adjusting.look_in_month.Goals as goal

pub returns-in_err-found : goal.returns-in_err-found
returns-in_err-found c = day_handed_on _ _ c.from_residual.ensures ∙ modified_refused _ _ _ _ c.look.ensures _ c.in_err-found.was

pub returns-then-same_month : goal.returns-then-same_month
returns-then-same_month c =
    let found = c.in_ok-found.was in
    modified_kept _ _ _ _ c.look.ensures _ _ found c.same_month.ensures c.if-same_month.true

pub returns : goal.returns
returns c =
    let found = c.in_ok-found.was in
    modified_left _ _ _ _ c.look.ensures _ _ _ found c.same_month.ensures c.if-same_month.false c.look-2.ensures
