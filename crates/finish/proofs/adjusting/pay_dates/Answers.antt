use Rattle.std.proofs.Common.{refl, rules, ◌∙◌}
use Rattle.finish.proofs.Moves.{handed_done}
use Rattle.finish.proofs.Pays.{among_paid, dates_kept, dates_last_refused, dates_on, dates_refused}
use Rattle.finish.proofs.adjusting.pay_dates.Goals as goal

pub returns-in_err-pay_first : goal.returns-in_err-pay_first
returns-in_err-pay_first c = λ ok k s. handed_done _ _ _ c.from_residual.ensures ∙ dates_refused _ _ _ _ _ c.requires.0 c.requires.1 _ _ (c.pay_first.ensures ok k) _ c.in_err-pay_first.was

pub returns-in_err-pay_last : goal.returns-in_err-pay_last
returns-in_err-pay_last c = λ ok k s. handed_done _ _ _ c.from_residual-in_err-pay_last.ensures ∙ dates_last_refused _ _ _ _ _ c.requires.0 c.requires.1 _ _ (c.pay_first.ensures ok k) _ c.in_ok-pay_first.was _ _ (c.pay_last.ensures ok (dates_kept c.args.q.now _ c.args.seed _ _ c.requires.0 c.requires.1 _ _ (c.pay_first.ensures ok k) _ _ _ c.in_ok-pay_first.was k) s) _ c.in_err-pay_last.was

pub returns : goal.returns
returns c = λ ok k s. dates_on _ _ _ _ _ c.requires.0 c.requires.1 _ _ (c.pay_first.ensures ok k) _ c.in_ok-pay_first.was _ _ (c.pay_last.ensures ok (dates_kept c.args.q.now _ c.args.seed _ _ c.requires.0 c.requires.1 _ _ (c.pay_first.ensures ok k) _ _ _ c.in_ok-pay_first.was k) s) _ _ _ c.in_ok-pay_last.was (c.pay_middle.ensures ok (among_paid c.args.q.now _ c.args.seed _ _ c.requires.0 c.requires.1 _ _ (c.pay_first.ensures ok k) _ c.in_ok-pay_first.was _ _ (c.pay_last.ensures ok (dates_kept c.args.q.now _ c.args.seed _ _ c.requires.0 c.requires.1 _ _ (c.pay_first.ensures ok k) _ _ _ c.in_ok-pay_first.was k) s) _ _ _ _ c.in_ok-pay_last.was refl c.narrow-among.ensures (search rules) _ k))
