use Rattle.forwards.proofs.Forthing.{closing_plain, closing_twentieth}
use Rattle.working.specs.Dates.{dated_on, dated_stops}
use Rattle.forwards.proofs.closing.put_closing.Goals as goal

pub returns-in_err-twentieth : goal.returns-in_err-twentieth
returns-in_err-twentieth c = record { run = λ p. closing_twentieth _ _ _ _ c.on_twentieths.ensures c.if-on_twentieths.true (dated_stops _ _ _ _ c.next.ensures c.in_err-twentieth.was _ c.from_residual.ensures) }

pub returns-then-on_twentieths : goal.returns-then-on_twentieths
returns-then-on_twentieths c = record { run = λ p. closing_twentieth _ _ _ _ c.on_twentieths.ensures c.if-on_twentieths.true (dated_on _ _ _ _ c.next.ensures c.in_ok-twentieth.was (c.put.ensures.run p)) }

pub returns : goal.returns
returns c = record { run = λ p. closing_plain _ _ _ _ c.on_twentieths.ensures c.if-on_twentieths.false (c.put-2.ensures.run p) }
