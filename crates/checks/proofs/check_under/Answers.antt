use Rattle.refusal.specs.Answer.{number}
use Rattle.steps.specs.Laws.Rows.{no_rows, row_holds, row_passed}
use Rattle.steps.specs.Table.{rows_under}
use Rattle.checks.proofs.Ways.{first_numbered, last_numbered, rows_handed, rows_step, test_holds, test_passed}
use Rattle.checks.proofs.check_under.Goals as goal

pub returns-in_err-check_first : goal.returns-in_err-check_first
unfolding rows_under
returns-in_err-check_first c =
    rows_handed c.check_first.result _ _ (first_numbered c.args.q.now c.args.rule) c.check_first.ensures _ _ c.from_residual.ensures c.in_err-check_first.was

pub returns-in_err-check_last : goal.returns-in_err-check_last
unfolding rows_under
returns-in_err-check_last c =
    rows_step c.check_first.result _ _ (first_numbered c.args.q.now c.args.rule) c.check_first.ensures _ c.in_ok-check_first.was
    (rows_handed c.check_last.result _ _ (last_numbered c.args.q.now c.args.rule) c.check_last.ensures _ _ c.from_residual-in_err-check_last.ensures c.in_err-check_last.was)

pub returns-then-denies_month_end : goal.returns-then-denies_month_end
unfolding rows_under number
returns-then-denies_month_end c =
    rows_step c.check_first.result _ _ (first_numbered c.args.q.now c.args.rule) c.check_first.ensures _ c.in_ok-check_first.was
    (rows_step c.check_last.result _ _ (last_numbered c.args.q.now c.args.rule) c.check_last.ensures _ c.in_ok-check_last.was
    (row_holds _ _ _ (test_holds _ _ c.denies_month_end.ensures c.if-denies_month_end.true)))

pub returns-then-is_short_end : goal.returns-then-is_short_end
unfolding rows_under number
returns-then-is_short_end c =
    rows_step c.check_first.result _ _ (first_numbered c.args.q.now c.args.rule) c.check_first.ensures _ c.in_ok-check_first.was
    (rows_step c.check_last.result _ _ (last_numbered c.args.q.now c.args.rule) c.check_last.ensures _ c.in_ok-check_last.was
    (row_passed _ _ _ _ (test_passed _ _ c.denies_month_end.ensures c.if-denies_month_end.false)
    (row_holds _ _ _ (test_holds _ _ c.is_short_end.ensures c.if-is_short_end.true))))

pub returns : goal.returns
unfolding rows_under number
returns c =
    rows_step c.check_first.result _ _ (first_numbered c.args.q.now c.args.rule) c.check_first.ensures _ c.in_ok-check_first.was
    (rows_step c.check_last.result _ _ (last_numbered c.args.q.now c.args.rule) c.check_last.ensures _ c.in_ok-check_last.was
    (row_passed _ _ _ _ (test_passed _ _ c.denies_month_end.ensures c.if-denies_month_end.false)
    (row_passed _ _ _ _ (test_passed _ _ c.is_short_end.ensures c.if-is_short_end.false) no_rows)))
