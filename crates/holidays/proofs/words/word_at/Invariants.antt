use Rattle.std.proofs.Common.{length, ◌-◌}
use Rattle.holidays.proofs.WordWays.{Wording}
use Rattle.holidays.proofs.words.word_at.Given as goal

abbrev pub invariant-loop-b : goal.invariant-loop-b
invariant-loop-b l = Wording l.file l.fn.from.at l.fn.from.line l.place.at l.place.line l.number

abbrev pub decreases-loop-b : goal.decreases-loop-b
decreases-loop-b l = length l.file - l.place.at
