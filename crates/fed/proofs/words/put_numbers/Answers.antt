use Rattle.fed.proofs.WordWays.{numberings}
use Rattle.fed.proofs.words.put_numbers.Goals as goal

pub loop-i-preserved : goal.loop-i-preserved
loop-i-preserved c = search numberings

pub returns : goal.returns
returns c = search numberings
