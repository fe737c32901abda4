use Rattle.std.proofs.Common.{◌∙◌}
use Rattle.backwards.proofs.Backing.{begun_is}
use Rattle.steps.specs.Generate.{backward}
use Rattle.working.specs.Paces.{pace_checked}
use Rattle.working.specs.Part.{begun}
use Rattle.working.specs.Step.{step_as, step_on, step_stops}
use Rattle.backwards.proofs.backward.Goals as goal

pub returns-in_err-n : goal.returns-in_err-n
unfolding backward
returns-in_err-n c = record { run = λ b. step_stops _ _ (step_as (begun_is _ _ _ (c.pace_of-pace.ensures ∙ pace_checked _ b.checked.tenor)) c.begin.ensures) _ c.in_err-n.was b.part _ c.from_residual.ensures }

pub returns : goal.returns
unfolding backward
returns c = record { run = λ b. step_on _ _ (step_as (begun_is _ _ _ (c.pace_of-pace.ensures ∙ pace_checked _ b.checked.tenor)) c.begin.ensures) _ c.in_ok-n.was b.part (λ p. c.backward_from.ensures.run (c.pace_of-pace.ensures ∙ pace_checked _ b.checked.tenor, (begun b.checked.calendar p, b.paid_size))) }
