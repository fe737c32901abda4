use Rattle.holidays.proofs.WordWays.{wording}
use Rattle.holidays.proofs.words.word_at.Goals as goal

pub loop-b-preserved : goal.loop-b-preserved
loop-b-preserved c = search wording
