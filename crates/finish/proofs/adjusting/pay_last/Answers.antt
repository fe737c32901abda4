use Rattle.finish.proofs.Pays.{last_alone, last_known, last_of_many, last_stays}
use Rattle.finish.proofs.adjusting.pay_last.Goals as goal

pub returns-then-n-eq1 : goal.returns-then-n-eq1
returns-then-n-eq1 c = λ ok k s. last_alone _ _ _ _ _ c.last_move-what.ensures _ _ c.if-n-eq1.true (c.move_last.ensures ok)

pub returns-then-is_last_paid : goal.returns-then-is_last_paid
returns-then-is_last_paid c = λ ok k s. last_stays c.args.q.now _ _ _ _ c.last_move-what.ensures _ c.if-n-eq1.false c.requires.0 c.requires.1 (c.is_last_paid.ensures c.if-is_last_paid.true) k

pub returns-then-is_last_known : goal.returns-then-is_last_known
returns-then-is_last_known c = λ ok k s. last_known c.args.q.now _ _ _ _ c.last_move-what.ensures _ c.if-n-eq1.false c.requires.0 c.requires.1 (c.is_last_known.ensures c.if-is_last_known.true) s

pub returns : goal.returns
returns c = λ ok k s. last_of_many _ _ _ _ _ c.last_move-what.ensures _ _ c.if-n-eq1.false c.requires.0 (c.pay_at.ensures ok)
