use Rattle.holidays.proofs.DateWays.{said_ways}
use Rattle.holidays.proofs.dates.read_all_day.Goals as goal

pub returns-then-is_over : goal.returns-then-is_over
returns-then-is_over c = search said_ways

pub returns-in-None : goal.returns-in-None
returns-in-None c = search said_ways

pub returns-else-is_over : goal.returns-else-is_over
returns-else-is_over c = search said_ways
