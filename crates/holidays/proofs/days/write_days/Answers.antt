use Rattle.std.proofs.Common.{refl}
use Rattle.holidays.proofs.DayWays.{writing_day, writings}
use Rattle.holidays.proofs.days.write_days.Goals as goal

pub loop-o-init : goal.loop-o-init
loop-o-init c = search writings

pub loop-o-preserved-then-is_empty : goal.loop-o-preserved-then-is_empty
loop-o-preserved-then-is_empty c = search writings

pub bounds-list-j : goal.bounds-list-j
bounds-list-j c = search writings

pub loop-o-preserved-then-is_set : goal.loop-o-preserved-then-is_set
loop-o-preserved-then-is_set c = writing_day c.loop-o.invariant c.loop-o-test.true c.is_set.ensures c.if-is_set.true refl

pub loop-o-preserved : goal.loop-o-preserved
loop-o-preserved c = search writings

pub returns : goal.returns
returns c = search writings
