use Rattle.holidays.proofs.TurnWays.{event_ways}
use Rattle.holidays.proofs.turns.event_turn.Goals as goal

pub returns-in-53040517 : goal.returns-in-53040517
returns-in-53040517 c = search event_ways

pub returns-in-52561541 : goal.returns-in-52561541
returns-in-52561541 c = search event_ways

pub returns-in-1266812549 : goal.returns-in-1266812549
returns-in-1266812549 c = search event_ways

pub returns-in-1260104852974 : goal.returns-in-1260104852974
returns-in-1260104852974 c = search event_ways

pub returns-in_default : goal.returns-in_default
returns-in_default c = search event_ways
