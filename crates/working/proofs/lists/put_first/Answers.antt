use Rattle.std.proofs.Common.{rules}
use Rattle.working.specs.Held.{put_onto_none}
use Rattle.working.proofs.lists.put_first.Goals as goal

pub returns : goal.returns
returns c = search (put_onto_none, rules)
