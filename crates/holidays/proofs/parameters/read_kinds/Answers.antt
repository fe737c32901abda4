use Rattle.holidays.proofs.ParameterWays.{kindings}
use Rattle.holidays.proofs.parameters.read_kinds.Goals as goal

pub loop-place-preserved : goal.loop-place-preserved
loop-place-preserved c = search kindings

pub returns-else-eq : goal.returns-else-eq
returns-else-eq c = search kindings
