use Rattle.opendays.proofs.Passing.{Passing}
use Rattle.opendays.proofs.listed.pass.Given as goal

abbrev pub invariant-loop-place : goal.invariant-loop-place
invariant-loop-place l = Passing l.mask l.closed l.from l.to l.place l.count
