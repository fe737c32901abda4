use Rattle.calendar.proofs.Moving.{led}
use Rattle.date.specs.Laws.Made.{given_day}
use Rattle.calendar.proofs.advances.step_days.Goals as goal

pub returns : goal.returns
returns c =
    λ ok s. led _ _ _ _ s _ c.shift_by.ensures _ (given_day _ _ _ (c.step_open.ensures ok) c.in_ok-date.was) _ _
    c.in_ok-base.was c.to.ensures
