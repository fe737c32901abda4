use Rattle.desk.proofs.Turning.{Copying}
use Rattle.desk.proofs.merging.copy.Given as goal

abbrev pub invariant-loop-k : goal.invariant-loop-k
invariant-loop-k l = Copying l.list l.initial.out l.at l.out l.k
