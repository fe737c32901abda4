use Rattle.std.proofs.Common.{length, ◌-◌}
use Rattle.holidays.proofs.LineWays.{Nexting}
use Rattle.holidays.proofs.lines.next.Given as goal

abbrev pub invariant-loop-at : goal.invariant-loop-at
invariant-loop-at l = Nexting l.file l.fn.from.at l.fn.from.line l.at l.line

abbrev pub decreases-loop-at : goal.decreases-loop-at
decreases-loop-at l = length l.file - l.at
