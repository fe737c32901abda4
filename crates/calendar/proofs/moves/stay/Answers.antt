use Rattle.calendar.proofs.Moving.{stays}
use Rattle.date.specs.Laws.Made.{given_day}
use Rattle.calendar.proofs.moves.stay.Goals as goal

pub returns : goal.returns
returns c = stays _ _ (given_day _ _ _ c.within.ensures c.in_ok-date.was)
