use Rattle.holidays.proofs.EventWays.{notings}
use Rattle.holidays.proofs.events.note.Goals as goal

pub returns-then-is_some : goal.returns-then-is_some
returns-then-is_some c = search notings

pub returns-in-None : goal.returns-in-None
returns-in-None c = search notings

pub returns-in-Some : goal.returns-in-Some
returns-in-Some c = search notings
