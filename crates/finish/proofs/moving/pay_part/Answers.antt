use Rattle.std.proofs.Common.{rules}
use Rattle.finish.proofs.moving.pay_part.Goals as goal

pub returns-in-Adjust : goal.returns-in-Adjust
returns-in-Adjust c = λ ok. rw c.in-Adjust.is (c.pay_each.ensures _ (λ k h r p. search rules))
