use Rattle.feeding.proofs.RunWays.{copies}
use Rattle.feeding.proofs.reading.copy.Goals as goal

pub loop-j-preserved : goal.loop-j-preserved
loop-j-preserved c = search copies

pub returns : goal.returns
returns c = search copies
