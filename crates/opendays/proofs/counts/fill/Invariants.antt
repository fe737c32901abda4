use Rattle.opendays.proofs.Filling.{Filling}
use Rattle.opendays.proofs.counts.fill.Given as goal

abbrev pub invariant-loop-i : goal.invariant-loop-i
invariant-loop-i l = Filling l.calendar.mask l.calendar.closed.now l.initial.index l.each l.index l.place l.count l.start l.i
