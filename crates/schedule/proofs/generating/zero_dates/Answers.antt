use Rattle.schedule.proofs.Building.{zero_size}
use Rattle.steps.specs.Generate.{zero_dates}
use Rattle.working.specs.Making.{back_unpaid}
use Rattle.working.specs.Step.{step_kept, step_on, step_stops}
use Rattle.schedule.proofs.generating.zero_dates.Goals as goal

pub returns-in_err-n : goal.returns-in_err-n
unfolding zero_dates
returns-in_err-n c = step_stops _ _ c.put_two.ensures _ c.in_err-n.was c.requires _ c.from_residual.ensures

pub overflow_sub-from : goal.overflow_sub-from
overflow_sub-from c = zero_size (step_kept _ c.put_two.ensures _ c.in_ok-n.was c.requires)

pub returns : goal.returns
unfolding zero_dates
returns c = step_on _ _ c.put_two.ensures _ c.in_ok-n.was c.requires (λ p. back_unpaid _ _ p)
