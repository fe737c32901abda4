use Rattle.request.proofs.WriteWays.{writing}
use Rattle.request.proofs.asking.write_closed.Goals as goal

pub loop-j-preserved : goal.loop-j-preserved
loop-j-preserved c = search writing

pub returns : goal.returns
returns c = search writing
