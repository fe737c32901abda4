use Rattle.opening.specs.Opening.{forward_ready, forward_refused}
use Rattle.steps.specs.Generate.{opened}
use Rattle.working.specs.Part.{begun}
use Rattle.working.specs.Step.{step_on, step_stops}
use Rattle.opening.proofs.open_forward.Goals as goal

pub returns-in_err-begin : goal.returns-in_err-begin
unfolding opened
returns-in_err-begin c = record { run = λ f. step_stops _ _ c.put_opening.ensures _ c.in_err-begin.was f _ c.from_residual.ensures }

pub returns-in_err-opening : goal.returns-in_err-opening
unfolding opened
returns-in_err-opening c = record { run = λ f. step_on _ _ c.put_opening.ensures _ c.in_ok-begin.was f (λ s. forward_refused _ c.put_second.ensures (begun f.calendar s.placed) _ c.in_err-opening.was _ c.from_residual-in_err-opening.ensures) }

pub returns : goal.returns
unfolding opened
returns c = record { run = λ f. step_on _ _ c.put_opening.ensures _ c.in_ok-begin.was f (λ s. forward_ready _ c.put_second.ensures (begun f.calendar s.placed) _ _ c.in_ok-opening.was s.sure) }
