use Rattle.std.proofs.Common.{rules}
use Rattle.book.proofs.Framings.{parted_none, parted_over, parted_cut, parted_on, parted_end}
use Rattle.book.proofs.framing.requests.Goals as goal

pub loop-rest-init : goal.loop-rest-init
loop-rest-init c = parted_none _

pub returns-then-n-eq64 : goal.returns-then-n-eq64
returns-then-n-eq64 c = parted_over c.loop-rest.invariant (search rules) c.if-n-eq64.true

pub returns-in-None : goal.returns-in-None
returns-in-None c = parted_cut c.loop-rest.invariant (search rules) c.if-n-eq64.false c.in-None.ensures

pub loop-rest-preserved : goal.loop-rest-preserved
loop-rest-preserved c = parted_on c.loop-rest.invariant (search rules) c.if-n-eq64.false _ _ c.in-Some.ensures

pub returns : goal.returns
returns c = parted_end c.loop-rest.invariant (search rules)
