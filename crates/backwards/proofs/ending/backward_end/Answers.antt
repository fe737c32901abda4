use Rattle.steps.specs.Generate.{backward_end}
use Rattle.working.specs.Making.{back_laid}
use Rattle.working.specs.Part.{begun_placed}
use Rattle.working.specs.Step.{step_on, step_stops}
use Rattle.backwards.proofs.ending.backward_end.Goals as goal

pub returns-in_err-last : goal.returns-in_err-last
unfolding backward_end
returns-in_err-last c = record { run = λ a. step_stops _ _ c.end.ensures _ c.in_err-last.was a _ c.from_residual.ensures }

pub returns : goal.returns
unfolding backward_end
returns c = record { run = λ a. step_on _ _ c.end.ensures _ c.in_ok-last.was a (λ s. back_laid _ _ _ _ _ _ (begun_placed s.ahead.begun) s.pays c.surplus-from.ensures c.surplus.ensures) }
