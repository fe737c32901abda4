use Rattle.backwards.proofs.Backing.{back_end_seed}
use Rattle.steps.specs.Generate.{backward_from}
use Rattle.steps.specs.Inner.Sure.{none_sure}
use Rattle.working.specs.Loops.{loop_is}
use Rattle.working.specs.Step.{step_as, step_on, step_stops}
use Rattle.backwards.proofs.backward_from.Goals as goal

pub returns-in_err-walked : goal.returns-in_err-walked
unfolding backward_from
returns-in_err-walked c = record { run = λ h. step_stops _ _ (step_as (loop_is _ _ _ _ _ _ _ _ _ _ _ h.0 c.seed_of.ensures c.anchor_or-day.ensures c.anchor_or.ensures) c.walk.ensures) _ c.in_err-walked.was (record { begun = h.1.0; paid_size = h.1.1; sure = none_sure _ }) _ c.from_residual.ensures }

pub returns : goal.returns
unfolding backward_from
returns c = record { run = λ h. step_on _ _ (step_as (loop_is _ _ _ _ _ _ _ _ _ _ _ h.0 c.seed_of.ensures c.anchor_or-day.ensures c.anchor_or.ensures) c.walk.ensures) _ c.in_ok-walked.was (record { begun = h.1.0; paid_size = h.1.1; sure = none_sure _ }) (λ a. back_end_seed _ _ _ _ _ _ _ c.anchor_or-day.ensures (c.backward_end.ensures.run a)) }
