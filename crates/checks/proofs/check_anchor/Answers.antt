use Rattle.refusal.specs.Answer.{number}
use Rattle.checks.proofs.Ways.{anchors}
use Rattle.checks.proofs.check_anchor.Goals as goal

pub returns-then-anchor-eq0 : goal.returns-then-anchor-eq0
unfolding number
returns-then-anchor-eq0 c = search anchors

pub returns-in-Backward : goal.returns-in-Backward
returns-in-Backward c = search anchors

pub returns-in-ThirdWednesday : goal.returns-in-ThirdWednesday
returns-in-ThirdWednesday c = search anchors

pub returns-in_default : goal.returns-in_default
unfolding number
returns-in_default c = search anchors
