use Rattle.feeding.proofs.FeedWays.{answering}
use Rattle.feeding.proofs.answering.answer.Goals as goal

pub returns-then-state-eq0 : goal.returns-then-state-eq0
returns-then-state-eq0 c = search answering

pub returns-then-state-eq-ENDED : goal.returns-then-state-eq-ENDED
returns-then-state-eq-ENDED c = search answering

pub returns : goal.returns
returns c = search answering
