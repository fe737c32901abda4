use Rattle.opendays.proofs.Moving.{moving}
use Rattle.opendays.proofs.search.kth_open.Goals as goal

pub kth_weekly-day-requires : goal.kth_weekly-day-requires
kth_weekly-day-requires c = search moving

pub loop-place-init : goal.loop-place-init
loop-place-init c = search moving

pub returns-then-day-x : goal.returns-then-day-x
returns-then-day-x c = search moving

pub loop-place-preserved-then-is_weekly_closed : goal.loop-place-preserved-then-is_weekly_closed
loop-place-preserved-then-is_weekly_closed c = search moving

pub loop-place-preserved : goal.loop-place-preserved
loop-place-preserved c = search moving

pub returns : goal.returns
returns c = search moving
