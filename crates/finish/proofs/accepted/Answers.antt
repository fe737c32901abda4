use Rattle.std.proofs.Common.{rules}
use Rattle.finish.proofs.Ending.{accepted_is}
use Rattle.finish.proofs.accepted.Goals as goal

pub returns : goal.returns
returns c = search (accepted_is, rules)
