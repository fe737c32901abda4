use Rattle.forwards.proofs.Forthing.{served}
use Rattle.forwards.proofs.closing.newest_paid.Goals as goal

pub returns-then-front_serves : goal.returns-then-front_serves
returns-then-front_serves c = λ ok f. served _ _ _ _ (c.front_serves.ensures c.if-front_serves.true) f

pub returns : goal.returns
returns c = λ ok f. c.adjusted.ensures ok
