use Rattle.std.proofs.Common.{refl}
use Rattle.fed.specs.Words.{places_in}
use Rattle.fed.proofs.words.places_in.Goals as goal

pub returns : goal.returns
unfolding places_in
returns c = refl
