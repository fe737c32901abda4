use Rattle.forwards.proofs.Forthing.{end_is, forth_laid}
use Rattle.working.specs.Step.{gives_as, step_on, step_stops}
use Rattle.forwards.proofs.closing.forward_end.Goals as goal

pub returns-in_err-anchored : goal.returns-in_err-anchored
returns-in_err-anchored c = record { run = λ a. gives_as (end_is _ _ _ _ _ _) (step_stops _ _ c.put_anchor.ensures _ c.in_err-anchored.was a _ c.from_residual.ensures) }

pub returns-in_err-shut : goal.returns-in_err-shut
returns-in_err-shut c = record { run = λ a. gives_as (end_is _ _ _ _ _ _) (step_on _ _ c.put_anchor.ensures _ c.in_ok-anchored.was a (λ t. step_stops _ _ c.close.ensures _ c.in_err-shut.was t.ahead _ c.from_residual-in_err-shut.ensures)) }

pub returns : goal.returns
returns c = record { run = λ a. gives_as (end_is _ _ _ _ _ _) (step_on _ _ c.put_anchor.ensures _ c.in_ok-anchored.was a (λ t. forth_laid _ _ _ _ t.ahead.begun.part t.pays _ _ (c.close.ensures.run t.ahead) _ c.in_ok-shut.was)) }
