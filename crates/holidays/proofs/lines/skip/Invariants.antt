use Rattle.std.proofs.Common.{length, ◌-◌}
use Rattle.holidays.specs.Inner.Along.{Skipping}
use Rattle.holidays.proofs.lines.skip.Given as goal

abbrev pub invariant-loop-at : goal.invariant-loop-at
invariant-loop-at l = Skipping l.file l.fn.from.at l.fn.from.line l.at l.line

abbrev pub decreases-loop-at : goal.decreases-loop-at
decreases-loop-at l = length l.file - l.at
