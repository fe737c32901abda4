use Rattle.refusal.specs.Laws.Answers.{handed}
use Rattle.holidays.proofs.TurnWays.{stop_stops, stop_goes}
use Rattle.holidays.proofs.turns.stop_turn.Goals as goal

pub returns-in_err-day : goal.returns-in_err-day
returns-in_err-day c = rw (handed _ _ c.from_residual.ensures) (stop_stops _ _ c.requires.reads_piece c.read_value-v.ensures c.note.ensures _ c.in_err-day.was)

pub returns : goal.returns
returns c = stop_goes _ _ c.requires.reads_piece c.read_value-v.ensures c.note.ensures _ c.in_ok-day.was c.requires.start_bound
