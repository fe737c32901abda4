use Rattle.opening.proofs.Openers.{credit_earlier, credit_put}
use Rattle.opening.specs.First.{first_with, found_sure}
use Rattle.steps.specs.Generate.{credit_opening}
use Rattle.working.specs.Dates.{value_on, value_stops}
use Rattle.opening.proofs.first.open_credit.Goals as goal

pub returns-in_err-paid : goal.returns-in_err-paid
unfolding credit_opening
returns-in_err-paid c = record { run = λ f. value_stops _ _ _ _ (c.adjusted.ensures f.calendar) c.in_err-paid.was _ c.from_residual.ensures }

pub returns-then-q-paid : goal.returns-then-q-paid
unfolding credit_opening
returns-then-q-paid c = record { run = λ f. value_on _ _ _ _ (c.adjusted.ensures f.calendar) c.in_ok-paid.was (credit_earlier _ _ _ _ c.if-q-paid.true (first_with _ _ c.open_earlier.ensures f.part (found_sure _ _ _ (c.adjusted.ensures f.calendar) c.in_ok-paid.was) c.with_sure.ensures)) }

pub returns : goal.returns
unfolding credit_opening
returns c = record { run = λ f. value_on _ _ _ _ (c.adjusted.ensures f.calendar) c.in_ok-paid.was (credit_put _ _ _ _ c.if-q-paid.false (first_with _ _ c.put_first.ensures f.part (found_sure _ _ _ (c.adjusted.ensures f.calendar) c.in_ok-paid.was) c.with_sure-2.ensures)) }
