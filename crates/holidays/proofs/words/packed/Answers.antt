use Rattle.holidays.proofs.WordWays.{packing}
use Rattle.holidays.proofs.words.packed.Goals as goal

pub returns-in-Some : goal.returns-in-Some
returns-in-Some c = search packing
