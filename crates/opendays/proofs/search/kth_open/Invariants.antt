use Rattle.opendays.proofs.Moving.{Moving}
use Rattle.opendays.proofs.search.kth_open.Given as goal

abbrev pub invariant-loop-place : goal.invariant-loop-place
invariant-loop-place l = Moving l.mask l.closed l.from l.k l.day l.place
