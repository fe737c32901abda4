use Rattle.fed.proofs.WordWays.{placed}
use Rattle.fed.proofs.words.with_places.Goals as goal

pub returns : goal.returns
returns c = search placed
