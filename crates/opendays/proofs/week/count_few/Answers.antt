use Rattle.opendays.proofs.Weeks.{few}
use Rattle.opendays.proofs.week.count_few.Goals as goal

pub loop-i-init : goal.loop-i-init
loop-i-init c = search few

pub loop-i-preserved : goal.loop-i-preserved
loop-i-preserved c = search few
