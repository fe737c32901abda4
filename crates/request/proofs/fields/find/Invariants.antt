use Rattle.std.proofs.Common.{length, ◌-◌}
use Rattle.request.proofs.FindWays.{Reached}
use Rattle.request.proofs.fields.find.Given as goal

abbrev pub invariant-loop-tag : goal.invariant-loop-tag
invariant-loop-tag l = Reached l.bytes l.places l.at l.last

abbrev pub decreases-loop-tag : goal.decreases-loop-tag
decreases-loop-tag l = length l.bytes - l.at
