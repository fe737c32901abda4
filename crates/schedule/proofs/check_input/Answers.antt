use Rattle.refusal.specs.Answer.{number}
use Rattle.schedule.proofs.Building.{number_even, number_uneven}
use Rattle.schedule.proofs.check_input.Goals as goal

pub returns-then-dates-unadjusted : goal.returns-then-dates-unadjusted
unfolding number
returns-then-dates-unadjusted c = number_uneven _ _ _ c.if-dates-unadjusted.true

pub returns : goal.returns
returns c = number_even _ _ _ _ c.if-dates-unadjusted.false c.check.ensures
