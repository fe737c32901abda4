use Rattle.fed.proofs.HandWays.{numbers}
use Rattle.fed.proofs.numbers_of.Goals as goal

pub returns : goal.returns
returns c = search numbers
