use Rattle.std.proofs.Common.{length}
use Rattle.desk.proofs.Turning.{Counting}
use Rattle.desk.proofs.merging.count.Given as goal

abbrev pub invariant-loop-rest : goal.invariant-loop-rest
invariant-loop-rest l = Counting l.fn.lists.desk.now l.fn.lists.house.now l.rest.desk.now l.rest.house.now l.n

abbrev pub decreases-loop-rest : goal.decreases-loop-rest
decreases-loop-rest l = length l.rest.desk.now
