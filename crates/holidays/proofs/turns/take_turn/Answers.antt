use Rattle.holidays.proofs.OtherWays.{other_turns}
use Rattle.holidays.proofs.turns.take_turn.Goals as goal

pub returns-then-st-eq0 : goal.returns-then-st-eq0
returns-then-st-eq0 c = search other_turns

pub returns-then-is_other : goal.returns-then-is_other
returns-then-is_other c = search other_turns
