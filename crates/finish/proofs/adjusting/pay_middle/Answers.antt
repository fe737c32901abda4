use Rattle.std.specs.Prelude.{Ok}
use Rattle.std.proofs.Common.{ap, ◌∙◌}
use Rattle.finish.proofs.Moves.{handed_done}
use Rattle.finish.proofs.Pays.{at_month_ends, seed_refused, seed_within, way_paid}
use Rattle.finish.proofs.adjusting.pay_middle.Goals as goal

pub returns-in_err-at_end : goal.returns-in_err-at_end
returns-in_err-at_end c = λ ok k. handed_done _ _ _ c.from_residual.ensures ∙ seed_refused _ _ _ _ _ _ c.seed_at_end.ensures ok _ c.in_err-at_end.was

pub returns-then-at_end : goal.returns-then-at_end
returns-then-at_end c = λ ok k. at_month_ends _ _ _ _ _ _ c.seed_at_end.ensures ok _ _ _ _ (c.in_ok-at_end.was ∙ ap Ok c.if-at_end.true) c.middle_move-what.ensures c.middle_end.ensures (c.pay_between.ensures ok)

pub returns : goal.returns
returns c = λ ok k. seed_within _ _ _ _ _ _ c.seed_at_end.ensures ok _ c.convention_on-way.ensures _ c.middle_move.ensures _ _ (c.in_ok-at_end.was ∙ ap Ok c.if-at_end.false) (c.pay_unpaid.ensures ok (way_paid c.args.q.now _ _ _ _ _ c.seed_at_end.ensures ok _ c.convention_on-way.ensures _ c.middle_move.ensures _ _ k))
