use Rattle.working.specs.Step.{step_on, step_stops}
use Rattle.working.proofs.lists.put_two.Goals as goal

pub returns-in_err-n : goal.returns-in_err-n
returns-in_err-n c = record { run = λ p. step_stops _ _ c.put_first.ensures _ c.in_err-n.was p _ c.from_residual.ensures }

pub returns : goal.returns
returns c = record { run = λ p. step_on _ _ c.put_first.ensures _ c.in_ok-n.was p (λ k. c.put.ensures.run k.part) }
