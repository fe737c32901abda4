use Rattle.fed.proofs.WordWays.{states}
use Rattle.fed.proofs.words.state_in.Goals as goal

pub returns : goal.returns
returns c = search states
