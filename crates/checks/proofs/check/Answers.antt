use Rattle.refusal.specs.Answer.{number}
use Rattle.steps.specs.Laws.Rows.{row_holds, row_passed}
use Rattle.steps.specs.Table.{input_rows}
use Rattle.checks.proofs.Ways.{calendar_handed, calendar_step, differ_holds, differ_passed, fault_holds, fault_passed, test_holds, test_passed, under_rule}
use Rattle.checks.proofs.check.Goals as goal

pub returns-then-dates-flags : goal.returns-then-dates-flags
unfolding input_rows number
returns-then-dates-flags c = row_holds _ _ _ (differ_holds _ _ c.if-dates-flags.true)

pub returns-then-not-dates_ok : goal.returns-then-not-dates_ok
unfolding input_rows number
returns-then-not-dates_ok c =
    row_passed _ _ _ _ (differ_passed _ _ c.if-dates-flags.false)
    (row_holds _ _ _ (fault_holds _ _ c.dates_ok.ensures c.if-not-dates_ok.true))

pub returns-in_err-check : goal.returns-in_err-check
unfolding input_rows
returns-in_err-check c =
    row_passed _ _ _ _ (differ_passed _ _ c.if-dates-flags.false)
    (row_passed _ _ _ _ (fault_passed _ _ c.dates_ok.ensures c.if-not-dates_ok.false)
    (calendar_handed c.check.result _ _ c.check.ensures.value _ _ _ c.from_residual.ensures c.in_err-check.was))

pub returns-then-is_negative : goal.returns-then-is_negative
unfolding input_rows number
returns-then-is_negative c =
    row_passed _ _ _ _ (differ_passed _ _ c.if-dates-flags.false)
    (row_passed _ _ _ _ (fault_passed _ _ c.dates_ok.ensures c.if-not-dates_ok.false)
    (calendar_step c.check.result _ _ c.check.ensures.value _ _ c.in_ok-check.was
    (row_holds _ _ _ (test_holds _ _ c.is_negative.ensures c.if-is_negative.true))))

pub returns-then-not-is_short : goal.returns-then-not-is_short
unfolding input_rows number
returns-then-not-is_short c =
    row_passed _ _ _ _ (differ_passed _ _ c.if-dates-flags.false)
    (row_passed _ _ _ _ (fault_passed _ _ c.dates_ok.ensures c.if-not-dates_ok.false)
    (calendar_step c.check.result _ _ c.check.ensures.value _ _ c.in_ok-check.was
    (row_passed _ _ _ _ (test_passed _ _ c.is_negative.ensures c.if-is_negative.false)
    (row_holds _ _ _ (fault_holds _ _ c.is_short.ensures c.if-not-is_short.true)))))

pub returns : goal.returns
unfolding input_rows
returns c =
    row_passed _ _ _ _ (differ_passed _ _ c.if-dates-flags.false)
    (row_passed _ _ _ _ (fault_passed _ _ c.dates_ok.ensures c.if-not-dates_ok.false)
    (calendar_step c.check.result _ _ c.check.ensures.value _ _ c.in_ok-check.was
    (row_passed _ _ _ _ (test_passed _ _ c.is_negative.ensures c.if-is_negative.false)
    (row_passed _ _ _ _ (fault_passed _ _ c.is_short.ensures c.if-not-is_short.false)
    (under_rule _ _ _ c.rule_in_force.ensures c.check_under.ensures)))))
