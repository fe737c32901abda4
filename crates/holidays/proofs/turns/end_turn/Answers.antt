use Rattle.holidays.proofs.TurnWays.{end_ways}
use Rattle.holidays.proofs.turns.end_turn.Goals as goal

pub returns-in_default : goal.returns-in_default
returns-in_default c = search end_ways

pub returns-then-depth-eq0 : goal.returns-then-depth-eq0
returns-then-depth-eq0 c = search end_ways

pub returns-then-in_event : goal.returns-then-in_event
returns-then-in_event c = search end_ways

pub returns-then-may_end : goal.returns-then-may_end
returns-then-may_end c = search end_ways

pub returns : goal.returns
returns c = search end_ways
