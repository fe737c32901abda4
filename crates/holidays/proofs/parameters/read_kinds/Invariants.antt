use Rattle.std.proofs.Common.{length, ◌-◌}
use Rattle.holidays.proofs.ParameterWays.{Kinding}
use Rattle.holidays.proofs.parameters.read_kinds.Given as goal

abbrev pub invariant-loop-place : goal.invariant-loop-place
invariant-loop-place l = Kinding l.file l.fn.from.at l.fn.from.line l.place.at l.place.line l.kind

abbrev pub decreases-loop-place : goal.decreases-loop-place
decreases-loop-place l = length l.file - l.place.at
