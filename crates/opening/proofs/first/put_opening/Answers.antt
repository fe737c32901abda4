use Rattle.opening.proofs.Openers.{opening_credit, opening_effective}
use Rattle.opening.specs.First.{first_with}
use Rattle.steps.specs.Inner.Sure.{none_sure}
use Rattle.working.specs.Dates.{dated_on, dated_stops}
use Rattle.opening.proofs.first.put_opening.Goals as goal

pub returns-in_err-twentieth : goal.returns-in_err-twentieth
returns-in_err-twentieth c = record { run = λ f. opening_credit _ _ _ _ c.is_credit.ensures c.if-is_credit.true (dated_stops _ _ _ _ c.previous.ensures c.in_err-twentieth.was _ c.from_residual.ensures) }

pub returns-then-is_credit : goal.returns-then-is_credit
returns-then-is_credit c = record { run = λ f. opening_credit _ _ _ _ c.is_credit.ensures c.if-is_credit.true (dated_on _ _ _ _ c.previous.ensures c.in_ok-twentieth.was (c.open_credit.ensures.run f)) }

pub returns : goal.returns
returns c = record { run = λ f. opening_effective _ _ _ _ c.is_credit.ensures c.if-is_credit.false (first_with _ _ c.put_first.ensures f.part (none_sure _) c.with_sure.ensures) }
