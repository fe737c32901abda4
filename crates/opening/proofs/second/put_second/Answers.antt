use Rattle.opening.proofs.Openers.{second_date}
use Rattle.opening.proofs.second.put_second.Goals as goal

pub returns-then-q-eq0 : goal.returns-then-q-eq0
returns-then-q-eq0 c = record { run = λ b. search (second_date, c.if-q-eq0.true, c.put_twentieth.ensures) }

pub returns : goal.returns
returns c = record { run = λ b. search (second_date, c.if-q-eq0.false, c.put_first.ensures) }
