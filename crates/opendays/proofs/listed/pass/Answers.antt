use Rattle.opendays.proofs.Passing.{passing}
use Rattle.opendays.proofs.listed.pass.Goals as goal

pub returns-then-to-x : goal.returns-then-to-x
returns-then-to-x c = search passing

pub loop-place-preserved-then-is_weekly_closed : goal.loop-place-preserved-then-is_weekly_closed
loop-place-preserved-then-is_weekly_closed c = search passing

pub loop-place-preserved : goal.loop-place-preserved
loop-place-preserved c = search passing

pub returns : goal.returns
returns c = search passing
