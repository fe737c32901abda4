use Rattle.finish.proofs.Moves.{last_some}
use Rattle.finish.proofs.adjusting.move_last.Goals as goal

pub returns : goal.returns
returns c = λ ok. last_some ok _ _ _ _ c.move_between.ensures
