use Rattle.refusal.specs.Laws.Answers.{handed}
use Rattle.holidays.proofs.TurnWays.{start_stops, start_goes}
use Rattle.holidays.proofs.turns.start_turn.Goals as goal

pub returns-in_err-day : goal.returns-in_err-day
returns-in_err-day c = rw (handed _ _ c.from_residual.ensures) (start_stops _ _ c.requires c.read_value-v.ensures c.note.ensures _ c.in_err-day.was)

pub returns : goal.returns
returns c = start_goes _ _ c.requires c.read_value-v.ensures c.note.ensures _ c.in_ok-day.was
