use Rattle.std.proofs.Common.{◌-◌}
use Rattle.calendar.proofs.Ways.{Steps}
use Rattle.calendar.proofs.advances.step_open.Given as goal

abbrev pub invariant-loop : goal.invariant-loop
invariant-loop l = Steps l.mask l.closed l.back l.size l.day (l.size - l.counter) l.at
