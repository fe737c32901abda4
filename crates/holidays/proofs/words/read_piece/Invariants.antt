use Rattle.std.proofs.Common.{length, ◌-◌}
use Rattle.holidays.proofs.WordWays.{Piecing}
use Rattle.holidays.proofs.words.read_piece.Given as goal

abbrev pub invariant-loop-b : goal.invariant-loop-b
invariant-loop-b l = Piecing l.file l.fn.from.at l.fn.from.line l.equals l.quoted l.place.at l.place.line l.number l.inside

abbrev pub decreases-loop-b : goal.decreases-loop-b
decreases-loop-b l = length l.file - l.place.at
