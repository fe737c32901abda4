use Rattle.refusal.specs.Laws.Answers.{handed}
use Rattle.holidays.proofs.TurnWays.{close_stops, close_goes}
use Rattle.holidays.proofs.turns.close_turn.Goals as goal

pub returns-in_err-count : goal.returns-in_err-count
returns-in_err-count c = rw (handed _ _ c.from_residual.ensures) (close_stops c.args.st c.args.room c.args.map.now c.close.ensures _ c.in_err-count.was)

pub returns : goal.returns
returns c = close_goes _ _ _ c.close.ensures _ c.in_ok-count.was
