use Rattle.std.proofs.Common.{rules}
use Rattle.steps.specs.Build.{over}
use Rattle.crossing.proofs.Naming.{spelled_put, spelled_short}
use Rattle.crossing.proofs.names.put_name.Goals as goal

pub returns-then-text-name : goal.returns-then-text-name
returns-then-text-name c = spelled_short _ _ c.refused.type_inv c.if-text-name.true c.refused.ensures

pub returns : goal.returns
unfolding over
returns c = spelled_put _ _ _ c.requires c.if-text-name.false (search rules)
