use Rattle.std.proofs.Common.{refl, ◌∙◌}
use Rattle.steps.specs.Generate.{forward_from}
use Rattle.working.specs.Loops.{loop_is}
use Rattle.working.specs.Paces.{pace_checked}
use Rattle.working.specs.Step.{step_as, step_on, step_stops}
use Rattle.forwards.proofs.forward_from.Goals as goal

pub returns-in_err-walked : goal.returns-in_err-walked
unfolding forward_from
returns-in_err-walked c = record { run = λ h. step_stops _ _ (step_as (loop_is _ _ _ _ _ _ _ _ _ _ _ (c.pace_of.ensures ∙ pace_checked _ h.0.tenor) c.seed_of.ensures refl c.anchor_or.ensures) c.walk.ensures) _ c.in_err-walked.was h.1 _ c.from_residual.ensures }

pub returns : goal.returns
unfolding forward_from
returns c = record { run = λ h. step_on _ _ (step_as (loop_is _ _ _ _ _ _ _ _ _ _ _ (c.pace_of.ensures ∙ pace_checked _ h.0.tenor) c.seed_of.ensures refl c.anchor_or.ensures) c.walk.ensures) _ c.in_ok-walked.was h.1 (λ a. c.forward_end.ensures.run a) }
