use Rattle.finish.proofs.Moves.{middle_some, middles}
use Rattle.finish.proofs.adjusting.move_middle.Goals as goal

pub returns-then-n-lt2 : goal.returns-then-n-lt2
returns-then-n-lt2 c = λ ok. search middles

pub returns : goal.returns
returns c = λ ok. middle_some ok _ _ _ _ c.if-n-lt2.false c.move_between.ensures
