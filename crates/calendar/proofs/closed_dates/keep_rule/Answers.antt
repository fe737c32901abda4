use Rattle.calendar.proofs.Checks.{checks}
use Rattle.calendar.proofs.closed_dates.keep_rule.Goals as goal

pub returns-then-closed-gt4096 : goal.returns-then-closed-gt4096
returns-then-closed-gt4096 c = search checks

pub returns-then-closed-eq0 : goal.returns-then-closed-eq0
returns-then-closed-eq0 c = search checks

pub loop-i-init : goal.loop-i-init
loop-i-init c = search checks

pub loop-i-preserved : goal.loop-i-preserved
loop-i-preserved c = search checks

pub returns : goal.returns
returns c = search checks
