use Rattle.opening.specs.Opening.{opened_ready}
use Rattle.steps.specs.Generate.{put_seed}
use Rattle.working.specs.Step.{step_on, step_stops}
use Rattle.opening.proofs.second.put_seed.Goals as goal

pub returns-in_err-m : goal.returns-in_err-m
unfolding put_seed
returns-in_err-m c = record { run = λ p. step_stops _ _ c.put.ensures _ c.in_err-m.was p _ c.from_residual.ensures }

pub returns : goal.returns
unfolding put_seed
returns c = record { run = λ p. step_on _ _ c.put.ensures _ c.in_ok-m.was p (λ k. opened_ready k) }
