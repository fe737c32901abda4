use Rattle.finish.proofs.Moves.{part_moved}
use Rattle.finish.proofs.moving.move_between.Goals as goal

pub returns : goal.returns
returns c = λ ok. part_moved ok _ _ _ _ _ _ c.requires.0 c.move_all.ensures
