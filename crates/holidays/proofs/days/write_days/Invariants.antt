use Rattle.std.proofs.Common.{◌-◌}
use Rattle.holidays.proofs.DayWays.{Writing}
use Rattle.holidays.proofs.days.write_days.Given as goal

abbrev pub invariant-loop-o : goal.invariant-loop-o
invariant-loop-o l = Writing l.map l.initial.list l.list l.o l.j

abbrev pub decreases-loop-o : goal.decreases-loop-o
decreases-loop-o l = 219145 - l.o
