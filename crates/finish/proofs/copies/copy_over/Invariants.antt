use Rattle.finish.proofs.Copying.{Copied}
use Rattle.finish.proofs.copies.copy_over.Given as goal

abbrev pub invariant-loop-i : goal.invariant-loop-i
invariant-loop-i g l = Copied l.src l.initial.dst l.dst l.i
