use Rattle.opendays.proofs.Filling.{Stepping}
use Rattle.opendays.proofs.counts.step_from.Given as goal

abbrev pub invariant-loop-i : goal.invariant-loop-i
invariant-loop-i l = Stepping l.up l.place l.initial.index l.index l.i
