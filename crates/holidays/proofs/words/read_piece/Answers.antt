use Rattle.holidays.proofs.WordWays.{pieces}
use Rattle.holidays.proofs.words.read_piece.Goals as goal

pub returns-then-is_stop : goal.returns-then-is_stop
returns-then-is_stop c = search pieces

pub loop-b-preserved : goal.loop-b-preserved
loop-b-preserved c = search pieces
