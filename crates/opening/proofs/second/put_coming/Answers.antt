use Rattle.opening.proofs.Openers.{coming_credit, coming_plain, coming_same, newest_seed}
use Rattle.opening.proofs.second.put_coming.Goals as goal

pub returns-then-day-q : goal.returns-then-day-q
returns-then-day-q c = record { run = λ p. coming_same _ _ _ _ c.if-day-q.true (newest_seed p _ c.newest.ensures) }

pub returns-then-is_credit : goal.returns-then-is_credit
returns-then-is_credit c = record { run = λ p. coming_credit _ _ _ _ c.if-day-q.false _ c.is_credit.ensures c.if-is_credit.true (c.put_seed.ensures.run p.part) }

pub returns : goal.returns
returns c = record { run = λ p. coming_plain _ _ _ _ c.if-day-q.false _ c.is_credit.ensures c.if-is_credit.false (c.put_seed-2.ensures.run p.part) }
