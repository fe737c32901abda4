use Rattle.std.proofs.Common.{rules}
use Rattle.finish.proofs.Ending.{merge_part, merge_refused}
use Rattle.finish.proofs.merges.merge.Goals as goal

pub returns-in_err-from : goal.returns-in_err-from
returns-in_err-from c = merge_refused (search rules) _ _ _ c.merge_end-to.ensures (search rules) (search rules) _ _ _ c.merge_front.ensures _ _ _ _ c.in_err-from.was c.from_residual.ensures

pub returns : goal.returns
returns c = merge_part (search rules) _ _ _ c.merge_end-to.ensures (search rules) (search rules) _ _ _ c.merge_front.ensures (search rules) (search rules) _ c.in_ok-from.was
