use Rattle.opendays.proofs.Weeks.{finding}
use Rattle.opendays.proofs.week.find_in_week.Goals as goal

pub loop-day-init : goal.loop-day-init
loop-day-init c = search finding

pub loop-day-preserved-then-is_weekly_closed : goal.loop-day-preserved-then-is_weekly_closed
loop-day-preserved-then-is_weekly_closed c = search finding

pub returns-then-left-eq0 : goal.returns-then-left-eq0
returns-then-left-eq0 c = search finding

pub loop-day-preserved : goal.loop-day-preserved
loop-day-preserved c = search finding
