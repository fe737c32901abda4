use Rattle.std.proofs.Common.{◌∙◌}
use Rattle.calendar.proofs.Ways.{beside_day, beside_refused}
use Rattle.date.specs.Date.{shift_days, shifted}
use Rattle.date.specs.Laws.Made.{day_handed_on}
use Rattle.calendar.proofs.month_ends.neighbour.Goals as goal

pub returns-in_err-from : goal.returns-in_err-from
unfolding shifted shift_days
returns-in_err-from c = λ ok. day_handed_on _ _ c.from_residual.ensures ∙ beside_refused _ _ _ _ _ c.shift_by.ensures _ c.in_err-from.was

pub returns : goal.returns
unfolding shifted shift_days
returns c = λ ok. beside_day _ _ _ _ _ c.shift_by.ensures _ _ c.in_ok-from.was (c.toward.ensures ok)
