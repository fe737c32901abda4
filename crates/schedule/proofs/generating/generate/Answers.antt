use Rattle.schedule.proofs.Building.{generate_back, generate_forth, generate_zero}
use Rattle.working.specs.Making.{unpaid_laid}
use Rattle.working.specs.Step.{gives_as}
use Rattle.schedule.proofs.generating.generate.Goals as goal

pub returns-then-is_zero : goal.returns-then-is_zero
returns-then-is_zero c = gives_as (generate_zero _ _ _ c.rule_in_force-rule.ensures c.is_zero.result c.is_zero.ensures _ c.if-is_zero.true) (unpaid_laid _ _ _ _ c.requires.part.1 c.zero_dates.ensures)

pub returns-then-is_backward : goal.returns-then-is_backward
returns-then-is_backward c = gives_as (generate_back _ _ _ c.rule_in_force-rule.ensures c.is_zero.result c.is_zero.ensures _ c.if-is_zero.false c.is_backward.result c.is_backward.ensures c.if-is_backward.true) (c.backward.ensures.run (record { checked = c.requires.checked; part = c.requires.part.0; paid_size = c.requires.part.1 }))

pub returns : goal.returns
returns c = gives_as (generate_forth _ _ _ c.rule_in_force-rule.ensures c.is_zero.result c.is_zero.ensures _ c.if-is_zero.false c.is_backward.result c.is_backward.ensures c.if-is_backward.false) (c.forward.ensures.run (record { checked = c.requires.checked; part = c.requires.part.0; paid_size = c.requires.part.1 }))
