use Rattle.opening.proofs.Openers.{newest_seed, twentieth_none, twentieth_on}
use Rattle.working.specs.Dates.{dated_on, dated_stops}
use Rattle.opening.proofs.second.put_twentieth.Goals as goal

pub returns-in_err-coming : goal.returns-in_err-coming
returns-in_err-coming c = record { run = λ p. twentieth_on _ _ _ _ c.on_twentieths.ensures c.if-on_twentieths.true (dated_stops _ _ _ _ c.coming_twentieth.ensures c.in_err-coming.was _ c.from_residual.ensures) }

pub returns-then-on_twentieths : goal.returns-then-on_twentieths
returns-then-on_twentieths c = record { run = λ p. twentieth_on _ _ _ _ c.on_twentieths.ensures c.if-on_twentieths.true (dated_on _ _ _ _ c.coming_twentieth.ensures c.in_ok-coming.was (c.put_coming.ensures.run p)) }

pub returns : goal.returns
returns c = record { run = λ p. twentieth_none _ _ _ _ c.on_twentieths.ensures c.if-on_twentieths.false (newest_seed p _ c.newest.ensures) }
