use Rattle.steps.specs.Generate.{ended}
use Rattle.working.specs.Step.{step_on, step_stops}
use Rattle.backwards.proofs.ending.end.Goals as goal

pub returns-in_err-anchored : goal.returns-in_err-anchored
unfolding ended
returns-in_err-anchored c = record { run = λ a. step_stops _ _ c.put_anchor.ensures _ c.in_err-anchored.was a _ c.from_residual.ensures }

pub returns : goal.returns
unfolding ended
returns c = record { run = λ a. step_on _ _ c.put_anchor.ensures _ c.in_ok-anchored.was a (λ s. c.put_new.ensures.run s) }
