use Rattle.steps.proofs.Ways.{rules_in_force}
use Rattle.steps.proofs.rules.rule_in_force.Goals as goal

pub returns-then-is_none : goal.returns-then-is_none
returns-then-is_none c = search rules_in_force

pub returns : goal.returns
returns c = search rules_in_force
