use Rattle.crossing.proofs.Laying.{floats}
use Rattle.crossing.proofs.years.of_basis.Goals as goal

pub bits_of-requires : goal.bits_of-requires
bits_of-requires c = search floats

pub returns-in-Of : goal.returns-in-Of
returns-in-Of c = search floats

pub returns-in-Refused : goal.returns-in-Refused
returns-in-Refused c = search floats
