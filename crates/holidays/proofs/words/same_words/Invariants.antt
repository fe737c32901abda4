use Rattle.std.proofs.Common.{length, ◌-◌}
use Rattle.holidays.proofs.WordWays.{Comparing}
use Rattle.holidays.proofs.words.same_words.Given as goal

abbrev pub invariant-loop-x : goal.invariant-loop-x
invariant-loop-x l = Comparing l.file l.fn.first l.fn.second l.a l.b

abbrev pub decreases-loop-x : goal.decreases-loop-x
decreases-loop-x l = length l.file - l.a.at
