use Rattle.std.proofs.Common.{length, ◌-◌}
use Rattle.holidays.specs.Inner.Walking.{Walking}
use Rattle.holidays.proofs.walk.read_lines.Given as goal

abbrev pub invariant-loop-refusal : goal.invariant-loop-refusal
invariant-loop-refusal l = Walking l.file l.room l.stack l.map l.st l.seen

abbrev pub decreases-loop-refusal : goal.decreases-loop-refusal
decreases-loop-refusal l = length l.file - l.st.place.at
