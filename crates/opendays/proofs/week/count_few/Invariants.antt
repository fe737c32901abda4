use Rattle.opendays.proofs.Weeks.{Few}
use Rattle.opendays.proofs.week.count_few.Given as goal

abbrev pub invariant-loop-i : goal.invariant-loop-i
invariant-loop-i l = Few l.mask l.from l.n l.count l.i
