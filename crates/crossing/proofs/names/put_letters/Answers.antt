use Rattle.crossing.proofs.Naming.{writing}
use Rattle.crossing.proofs.names.put_letters.Goals as goal

pub returns : goal.returns
returns c = search writing
