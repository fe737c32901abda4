use Rattle.std.proofs.Common.{rules}
use Rattle.steps.proofs.Ways.{none_test}
use Rattle.steps.proofs.tenors.is_none.Goals as goal

pub returns : goal.returns
returns c = none_test _ (record { sfits = search rules })
