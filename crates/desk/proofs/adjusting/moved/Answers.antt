use Rattle.std.proofs.Common.{ap, ◌∙◌}
use Rattle.calendar.specs.Laws.HowFar.{adjusted_up_to}
use Rattle.calendar.specs.Moves.{moved_from}
use Rattle.desk.proofs.adjusting.moved.Goals as goal

pub returns : goal.returns
returns c = c.to.ensures (adjusted_up_to _ _ _ _ c.by_convention.ensures) ∙ ap (moved_from _) c.by_convention.ensures
