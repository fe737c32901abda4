use Rattle.std.proofs.Common.{◌+◌, ◌-◌}
use Rattle.opendays.proofs.Weeks.{Finding}
use Rattle.opendays.proofs.week.find_in_week.Given as goal

abbrev pub invariant-loop-day : goal.invariant-loop-day
invariant-loop-day l = Finding l.mask l.from l.before l.day l.left

abbrev pub decreases-loop-day : goal.decreases-loop-day
decreases-loop-day l = l.from + 7 - l.day
