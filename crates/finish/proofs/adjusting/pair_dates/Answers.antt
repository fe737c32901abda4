use Rattle.std.proofs.Common.{◌∙◌}
use Rattle.finish.proofs.Moves.{handed_done}
use Rattle.finish.proofs.Pays.{pairs_on, pairs_paid, pairs_refused}
use Rattle.finish.proofs.adjusting.pair_dates.Goals as goal

pub returns-in_err-third_wednesdays : goal.returns-in_err-third_wednesdays
returns-in_err-third_wednesdays c = λ ok k s. handed_done _ _ _ c.from_residual.ensures ∙ pairs_refused _ _ _ _ _ _ c.rule_in_force-rule.ensures _ (c.third_wednesdays.ensures ok) _ c.in_err-third_wednesdays.was

pub returns : goal.returns
returns c = λ ok k s. pairs_on _ _ _ _ _ _ c.rule_in_force-rule.ensures _ (c.third_wednesdays.ensures ok) _ c.in_ok-third_wednesdays.was _ _ (c.pay_dates.ensures ok (pairs_paid c.args.q.now _ c.args.made.seed _ _ _ c.rule_in_force-rule.ensures _ (c.third_wednesdays.ensures ok) _ c.in_ok-third_wednesdays.was _ _ _ _ c.still_paid-known.ensures k) s)
