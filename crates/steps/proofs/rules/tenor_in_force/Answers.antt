use Rattle.std.proofs.Common.{false, refl, true}
use Rattle.steps.proofs.Ways.{tenor_by}
use Rattle.steps.specs.Rules.{tenor_under}
use Rattle.steps.proofs.rules.tenor_in_force.Goals as goal

pub returns-then-is_zero : goal.returns-then-is_zero
unfolding tenor_under
returns-then-is_zero c = tenor_by _ _ _ c.rule_in_force.ensures c.is_zero.ensures true _ c.if-is_zero.true refl

pub returns : goal.returns
unfolding tenor_under
returns c = tenor_by _ _ _ c.rule_in_force.ensures c.is_zero.ensures false _ c.if-is_zero.false refl
