use Rattle.finish.proofs.Pays.{pays_none}
use Rattle.finish.proofs.moving.pay_some.Goals as goal

pub returns-then-a-b : goal.returns-then-a-b
returns-then-a-b c = λ ok. pays_none _ _ _ _ _ c.if-a-b.true c.requires.1 c.requires.2
