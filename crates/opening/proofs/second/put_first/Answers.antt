use Rattle.opening.proofs.Openers.{first_on, flagged, second_date}
use Rattle.working.specs.Dates.{dated_on, dated_stops}
use Rattle.opening.proofs.second.put_first.Goals as goal

pub returns-then-room-n : goal.returns-then-room-n
returns-then-room-n c = record { run = λ b. search (second_date, c.if-room-n.true) }

pub returns-in_err-next : goal.returns-in_err-next
returns-in_err-next c =
    record {
      run = λ b. first_on _ b _ c.if-room-n.false c.newest.ensures (dated_stops _ _ _ _ (c.tenor_on.ensures b.calendar) c.in_err-next.was _ c.from_residual.ensures);
    }

pub returns : goal.returns
returns c =
    record {
      run = λ b. first_on _ b _ c.if-room-n.false c.newest.ensures (dated_on _ _ _ _ (c.tenor_on.ensures b.calendar) c.in_ok-next.was (flagged _ _ _ _ _ c.same_flag.ensures (c.put_seed.ensures.run b.part)));
    }
