use Rattle.desk.proofs.Turning.{copies}
use Rattle.desk.proofs.merging.copy.Goals as goal

pub loop-k-preserved : goal.loop-k-preserved
loop-k-preserved c = search copies
