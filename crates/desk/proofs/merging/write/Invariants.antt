use Rattle.std.proofs.Common.{length}
use Rattle.desk.proofs.Turning.{Laying}
use Rattle.desk.proofs.merging.write.Given as goal

abbrev pub invariant-loop-rest : goal.invariant-loop-rest
invariant-loop-rest l = Laying l.fn.lists.desk.now l.fn.lists.house.now l.initial.out l.out l.rest.desk.now l.rest.house.now l.n

abbrev pub decreases-loop-rest : goal.decreases-loop-rest
decreases-loop-rest l = length l.rest.desk.now
