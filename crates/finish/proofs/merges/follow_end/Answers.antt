use Rattle.std.proofs.Common.{rules}
use Rattle.finish.proofs.Ending.{follow_end_no, follow_end_yes}
use Rattle.finish.proofs.merges.follow_end.Goals as goal

pub returns-then-to-work : goal.returns-then-to-work
returns-then-to-work c = follow_end_yes _ _ (search rules)

pub returns-else-to-work : goal.returns-else-to-work
returns-else-to-work c = follow_end_no _ _ c.if-to-work.false
