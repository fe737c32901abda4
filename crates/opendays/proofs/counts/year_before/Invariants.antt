use Rattle.std.proofs.Common.{◌-◌}
use Rattle.opendays.proofs.Ranks.{Halving}
use Rattle.opendays.proofs.counts.year_before.Given as goal

abbrev pub invariant-loop-lo : goal.invariant-loop-lo
invariant-loop-lo l = Halving l.index l.rank l.from l.lo l.hi

abbrev pub decreases-loop-lo : goal.decreases-loop-lo
decreases-loop-lo l = l.hi - l.lo
