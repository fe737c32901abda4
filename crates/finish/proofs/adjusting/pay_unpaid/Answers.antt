use Rattle.std.proofs.Common.{◌∙◌}
use Rattle.finish.proofs.Moves.{handed_done}
use Rattle.finish.proofs.Pays.{unpaid_on, unpaid_refused}
use Rattle.finish.proofs.adjusting.pay_unpaid.Goals as goal

pub returns-in_err-pay_some : goal.returns-in_err-pay_some
returns-in_err-pay_some c = λ ok p. handed_done _ _ _ c.from_residual.ensures ∙ unpaid_refused _ _ _ _ _ c.requires.in_bounds.1 c.requires.in_bounds.0 c.requires.le_from.0 c.requires.le_from.1 c.requires.le_from.2 c.middle_end-end.ensures p _ _ (c.pay_some.ensures ok) _ c.in_err-pay_some.was

pub returns : goal.returns
returns c = λ ok p. unpaid_on _ _ _ _ _ c.requires.in_bounds.1 c.requires.in_bounds.0 c.requires.le_from.0 c.requires.le_from.1 c.requires.le_from.2 c.middle_end-end.ensures p _ _ (c.pay_some.ensures ok) _ _ _ c.in_ok-pay_some.was (c.pay_some-2.ensures ok)
