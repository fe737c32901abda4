use Rattle.finish.proofs.Pays.{first_stays}
use Rattle.finish.proofs.adjusting.pay_first.Goals as goal

pub returns-then-is_first_paid : goal.returns-then-is_first_paid
returns-then-is_first_paid c = λ ok k. first_stays c.args.q.now _ _ _ c.requires.0 c.requires.1 _ c.first_move-what.ensures _ (c.is_first_paid.ensures c.if-is_first_paid.true) k
