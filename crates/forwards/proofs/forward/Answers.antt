use Rattle.steps.specs.Generate.{forward}
use Rattle.working.specs.Part.{begun}
use Rattle.working.specs.Step.{step_on, step_stops}
use Rattle.forwards.proofs.forward.Goals as goal

pub returns-in_err-opened : goal.returns-in_err-opened
unfolding forward
returns-in_err-opened c = record { run = λ b. step_stops _ _ c.open_forward.ensures _ c.in_err-opened.was (record { calendar = b.checked.calendar; part = b.part }) _ c.from_residual.ensures }

pub returns : goal.returns
unfolding forward
returns c = record { run = λ b. step_on _ _ c.open_forward.ensures _ c.in_ok-opened.was (record { calendar = b.checked.calendar; part = b.part }) (λ s. c.forward_from.ensures.run (b.checked, record { begun = begun b.checked.calendar s.placed; paid_size = b.paid_size; sure = s.sure })) }
