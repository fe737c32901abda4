use Rattle.calendar.proofs.Days.{ahead_rules}
use Rattle.calendar.proofs.scan.ahead.Goals as goal

pub days-init : goal.days-init
days-init c = search ahead_rules

pub returns-then-left-eq0 : goal.returns-then-left-eq0
returns-then-left-eq0 c = search ahead_rules

pub days-preserved-then-shut : goal.days-preserved-then-shut
days-preserved-then-shut c = search ahead_rules

pub days-preserved : goal.days-preserved
days-preserved c = search ahead_rules

pub scan-preserved : goal.scan-preserved
scan-preserved c = search ahead_rules

pub returns-after-scan : goal.returns-after-scan
returns-after-scan c = search ahead_rules

pub returns-then-here-x : goal.returns-then-here-x
returns-then-here-x c = search ahead_rules
