use Rattle.working.proofs.Turns.{front_known}
use Rattle.working.proofs.adds.front_of.Goals as goal

pub returns-then-front-eq0 : goal.returns-then-front-eq0
returns-then-front-eq0 c = λ ok f. c.adjusted.ensures ok

pub returns : goal.returns
returns c = λ ok f. front_known f c.if-front-eq0.false
