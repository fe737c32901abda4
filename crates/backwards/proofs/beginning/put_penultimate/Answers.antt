use Rattle.backwards.proofs.Backing.{flagged, penultimate, penultimate_on}
use Rattle.working.specs.Dates.{dated_on, dated_stops}
use Rattle.backwards.proofs.beginning.put_penultimate.Goals as goal

pub returns-then-anchor-eq0 : goal.returns-then-anchor-eq0
returns-then-anchor-eq0 c = record { run = λ p. search (penultimate, c.if-anchor-eq0.true) }

pub returns-then-room-n : goal.returns-then-room-n
returns-then-room-n c = record { run = λ p. search (penultimate, c.if-anchor-eq0.false, c.if-room-n.true) }

pub returns-in_err-next : goal.returns-in_err-next
returns-in_err-next c = record { run = λ p. penultimate_on _ _ p _ c.if-anchor-eq0.false c.if-room-n.false (dated_stops _ _ _ _ c.candidate.ensures c.in_err-next.was _ c.from_residual.ensures) }

pub returns : goal.returns
returns c = record { run = λ p. penultimate_on _ _ p _ c.if-anchor-eq0.false c.if-room-n.false (dated_on _ _ _ _ c.candidate.ensures c.in_ok-next.was (flagged _ _ _ _ _ c.same_flag-mark.ensures (c.put.ensures.run p.part))) }
