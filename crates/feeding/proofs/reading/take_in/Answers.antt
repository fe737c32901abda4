use Rattle.feeding.proofs.RunWays.{walking}
use Rattle.feeding.proofs.reading.take_in.Goals as goal

pub loop-j-preserved-then-n-eq0 : goal.loop-j-preserved-then-n-eq0
loop-j-preserved-then-n-eq0 c = search walking

pub loop-j-preserved : goal.loop-j-preserved
loop-j-preserved c = search walking

pub returns : goal.returns
returns c = search walking
