use Rattle.request.proofs.AskWays.{reads_in}
use Rattle.request.proofs.stored.read.Goals as goal

pub returns-then-bytes-lt20000 : goal.returns-then-bytes-lt20000
returns-then-bytes-lt20000 c = search reads_in

pub returns : goal.returns
returns c = search reads_in
