use Rattle.holidays.proofs.ParameterWays.{parameters_are}
use Rattle.holidays.proofs.parameters.read_parameter.Goals as goal

pub returns-then-eq : goal.returns-then-eq
returns-then-eq c = search parameters_are

pub returns : goal.returns
returns c = search parameters_are
