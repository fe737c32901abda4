use Rattle.holidays.proofs.DateWays.{kind_ways}
use Rattle.holidays.proofs.dates.read_date.Goals as goal

pub returns-then-is_timed : goal.returns-then-is_timed
returns-then-is_timed c = search kind_ways

pub returns-in-Strange : goal.returns-in-Strange
returns-in-Strange c = search kind_ways

pub returns-else-is_timed : goal.returns-else-is_timed
returns-else-is_timed c = search kind_ways
