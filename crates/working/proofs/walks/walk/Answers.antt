use Rattle.std.proofs.Common.{rules}
use Rattle.working.proofs.walks.walk.Goals as goal

pub returns-then-not-are_whole : goal.returns-then-not-are_whole
returns-then-not-are_whole c = search rules
