use Rattle.calendar.proofs.Days.{behind_rules}
use Rattle.calendar.proofs.scan.behind.Goals as goal

pub days-init : goal.days-init
days-init c = search behind_rules

pub returns-then-left-eq0 : goal.returns-then-left-eq0
returns-then-left-eq0 c = search behind_rules

pub days-preserved-then-shut : goal.days-preserved-then-shut
days-preserved-then-shut c = search behind_rules

pub days-preserved : goal.days-preserved
days-preserved c = search behind_rules

pub scan-preserved : goal.scan-preserved
scan-preserved c = search behind_rules

pub returns-after-scan : goal.returns-after-scan
returns-after-scan c = search behind_rules

pub returns-then-x-here : goal.returns-then-x-here
returns-then-x-here c = search behind_rules
