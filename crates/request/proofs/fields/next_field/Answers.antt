use Rattle.request.proofs.StepWays.{steps}
use Rattle.request.proofs.fields.next_field.Goals as goal

pub returns-then-left-lt3 : goal.returns-then-left-lt3
returns-then-left-lt3 c = search steps

pub returns-then-left-n : goal.returns-then-left-n
returns-then-left-n c = search steps

pub returns-then-tag-last : goal.returns-then-tag-last
returns-then-tag-last c = search steps

pub returns-then-left-eq3 : goal.returns-then-left-eq3
returns-then-left-eq3 c = search steps

pub returns-then-tag : goal.returns-then-tag
returns-then-tag c = search steps

pub returns-then-body_ok : goal.returns-then-body_ok
returns-then-body_ok c = search steps

pub returns : goal.returns
returns c = search steps
