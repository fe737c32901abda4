use Rattle.holidays.proofs.TurnWays.{turn_ways}
use Rattle.holidays.proofs.turns.named_turn.Goals as goal

pub returns-then-name-eq-BEGIN : goal.returns-then-name-eq-BEGIN
returns-then-name-eq-BEGIN c = search turn_ways

pub returns-then-name-eq-END : goal.returns-then-name-eq-END
returns-then-name-eq-END c = search turn_ways

pub returns-then-st-eq0 : goal.returns-then-st-eq0
returns-then-st-eq0 c = search turn_ways

pub returns-then-in_event : goal.returns-then-in_event
returns-then-in_event c = search turn_ways

pub returns : goal.returns
returns c = search turn_ways
