use Rattle.fed.proofs.WordWays.{putting}
use Rattle.fed.proofs.words.with_state.Goals as goal

pub returns : goal.returns
returns c = search putting
