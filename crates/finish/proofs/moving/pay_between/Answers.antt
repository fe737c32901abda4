use Rattle.finish.proofs.Moves.{part_paid}
use Rattle.finish.proofs.moving.pay_between.Goals as goal

pub returns : goal.returns
returns c = λ ok. part_paid ok _ _ _ _ _ _ _ c.requires.0 c.pay_part.ensures
