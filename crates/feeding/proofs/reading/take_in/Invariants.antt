use Rattle.std.proofs.Common.{length, ◌-◌}
use Rattle.feeding.proofs.RunWays.{Walking}
use Rattle.feeding.proofs.reading.take_in.Given as goal

abbrev pub invariant-loop-j : goal.invariant-loop-j
invariant-loop-j l = Walking l.part l.initial.buffer l.initial.s l.buffer l.s l.j

abbrev pub decreases-loop-j : goal.decreases-loop-j
decreases-loop-j l = length l.part - l.j
