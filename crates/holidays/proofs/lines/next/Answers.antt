use Rattle.holidays.proofs.LineWays.{nexts}
use Rattle.holidays.proofs.lines.next.Goals as goal

pub loop-at-preserved-then-is_fold : goal.loop-at-preserved-then-is_fold
loop-at-preserved-then-is_fold c = search nexts
