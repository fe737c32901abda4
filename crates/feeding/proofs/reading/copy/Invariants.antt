use Rattle.feeding.proofs.RunWays.{Copying}
use Rattle.feeding.proofs.reading.copy.Given as goal

abbrev pub invariant-loop-j : goal.invariant-loop-j
invariant-loop-j l = Copying l.part l.initial.buffer l.at l.buffer l.j
