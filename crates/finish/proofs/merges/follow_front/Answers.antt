use Rattle.std.proofs.Common.{rules}
use Rattle.finish.proofs.Ending.{follow_front_no, follow_front_yes}
use Rattle.finish.proofs.merges.follow_front.Goals as goal

pub returns-then-from-eq1 : goal.returns-then-from-eq1
returns-then-from-eq1 c = follow_front_yes _ _ (search rules)

pub returns-else-from-eq1 : goal.returns-else-from-eq1
returns-else-from-eq1 c = follow_front_no _ _ c.if-from-eq1.false
