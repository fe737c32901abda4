use Rattle.calendar.proofs.Places.{places}
use Rattle.calendar.proofs.closed_dates.place_after.Goals as goal

pub returns-then-closed-place : goal.returns-then-closed-place
returns-then-closed-place c = search places

pub returns-else-closed-place : goal.returns-else-closed-place
returns-else-closed-place c = search places
