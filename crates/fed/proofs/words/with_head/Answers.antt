use Rattle.fed.proofs.WordWays.{states}
use Rattle.fed.proofs.words.with_head.Goals as goal

pub returns : goal.returns
returns c = search states
