use Rattle.holidays.proofs.ParameterWays.{values_are}
use Rattle.holidays.proofs.parameters.read_value.Goals as goal

pub returns : goal.returns
returns c = search values_are

pub returns-then-eq : goal.returns-then-eq
returns-then-eq c = search values_are
