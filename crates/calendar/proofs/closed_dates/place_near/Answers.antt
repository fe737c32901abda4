use Rattle.std.proofs.Common.{arith}
use Rattle.calendar.proofs.Places.{bracket_down, bracket_end, bracket_start, bracket_up, place_at}
use Rattle.calendar.proofs.closed_dates.place_near.Goals as goal

pub place_from-requires : goal.place_from-requires
place_from-requires c = bracket_up bracket_start (omega arith) c.if-closed-guess.false c.if-closed-guess-2.true

pub returns-then-guess-eq0 : goal.returns-then-guess-eq0
returns-then-guess-eq0 c = bracket_end (bracket_down bracket_start (omega arith) c.if-closed-guess.false c.if-closed-guess-2.false) (omega (arith, c.if-guess-eq0.true))

pub returns-then-closed-guess-3 : goal.returns-then-closed-guess-3
returns-then-closed-guess-3 c = place_at _ (bracket_down bracket_start (omega arith) c.if-closed-guess.false c.if-closed-guess-2.false) c.if-guess-eq0.false c.if-closed-guess-3.true

pub place_up_to-requires-2 : goal.place_up_to-requires-2
place_up_to-requires-2 c = bracket_down (bracket_down bracket_start (omega arith) c.if-closed-guess.false c.if-closed-guess-2.false) (omega arith) (omega arith) c.if-closed-guess-3.false
