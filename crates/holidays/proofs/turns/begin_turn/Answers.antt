use Rattle.holidays.proofs.TurnWays.{begin_ways}
use Rattle.holidays.proofs.turns.begin_turn.Goals as goal

pub returns-in_default : goal.returns-in_default
returns-in_default c = search begin_ways

pub returns-in-None : goal.returns-in-None
returns-in-None c = search begin_ways

pub returns-in-Some-open_part : goal.returns-in-Some-open_part
returns-in-Some-open_part c = search begin_ways
