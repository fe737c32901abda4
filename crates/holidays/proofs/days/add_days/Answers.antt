use Rattle.holidays.proofs.DayWays.{addings}
use Rattle.holidays.proofs.days.add_days.Goals as goal

pub loop-o-init : goal.loop-o-init
loop-o-init c = search addings

pub loop-o-preserved-then-is_full : goal.loop-o-preserved-then-is_full
loop-o-preserved-then-is_full c = search addings

pub loop-o-preserved-then-is_set : goal.loop-o-preserved-then-is_set
loop-o-preserved-then-is_set c = search addings

pub loop-o-preserved : goal.loop-o-preserved
loop-o-preserved c = search addings
