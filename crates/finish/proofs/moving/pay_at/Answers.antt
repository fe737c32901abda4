use Rattle.std.proofs.Common.{◌∙◌}
use Rattle.finish.proofs.Moves.{handed_done}
use Rattle.finish.proofs.Pays.{one_moved, one_refused}
use Rattle.finish.proofs.moving.pay_at.Goals as goal

pub returns-in_err-paid : goal.returns-in_err-paid
returns-in_err-paid c = λ ok. handed_done _ _ _ c.from_residual.ensures ∙ one_refused _ _ _ _ c.requires.0 c.requires.1 _ (c.moved.ensures ok) _ c.in_err-paid.was

pub returns : goal.returns
returns c = λ ok. one_moved _ _ _ _ c.requires.0 c.requires.1 _ (c.moved.ensures ok) _ c.in_ok-paid.was
