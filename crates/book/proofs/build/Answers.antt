use Rattle.book.proofs.Booking.{all_done, are_ready, booking, cut_short, few_places}
use Rattle.book.proofs.build.Goals as goal

pub returns-then-dates-flags : goal.returns-then-dates-flags
returns-then-dates-flags c = search booking

pub returns-then-dates-unadjusted : goal.returns-then-dates-unadjusted
returns-then-dates-unadjusted c = search booking

pub returns-in_err-n : goal.returns-in_err-n
returns-in_err-n c = cut_short _ _ _ _ _ c.if-dates-flags.false c.if-dates-unadjusted.false _ c.requests.ensures _ c.in_err-n.was _ c.from_residual.ensures

pub returns-then-answers-n : goal.returns-then-answers-n
returns-then-answers-n c = few_places _ _ _ _ _ c.if-dates-flags.false c.if-dates-unadjusted.false _ c.requests.ensures _ c.in_ok-n.was c.if-answers-n.true

pub take_turns-requires : goal.take_turns-requires
take_turns-requires c = are_ready _ _ _ _ _ c.if-dates-flags.false c.if-dates-unadjusted.false _ c.requests.ensures _ c.in_ok-n.was c.if-answers-n.false

pub returns : goal.returns
returns c = all_done _ _ _ _ _ c.if-dates-flags.false c.if-dates-unadjusted.false _ c.requests.ensures _ c.in_ok-n.was c.if-answers-n.false _ c.take_turns.ensures
