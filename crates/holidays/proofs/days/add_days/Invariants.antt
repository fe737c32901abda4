use Rattle.std.proofs.Common.{◌-◌}
use Rattle.holidays.proofs.DayWays.{Adding}
use Rattle.holidays.proofs.days.add_days.Given as goal

abbrev pub invariant-loop-o : goal.invariant-loop-o
invariant-loop-o l = Adding l.initial.map l.first l.past l.limit l.map l.o l.n

abbrev pub decreases-loop-o : goal.decreases-loop-o
decreases-loop-o l = l.past - l.o
