use Rattle.holidays.proofs.UsualWays.{usual_ways}
use Rattle.holidays.proofs.parameters.read_usual.Goals as goal

pub returns-then-stands : goal.returns-then-stands
returns-then-stands c = search usual_ways
