use Rattle.std.proofs.Common.{arith}
use Rattle.holidays.proofs.WordWays.{letter_large, letter_small, letters}
use Rattle.holidays.proofs.words.letter.Goals as goal

pub returns-in-45 : goal.returns-in-45
returns-in-45 c = search letters

pub returns-in-65-to-90 : goal.returns-in-65-to-90
returns-in-65-to-90 c = letter_large (omega arith) (omega arith)

pub returns-in-97-to-122 : goal.returns-in-97-to-122
returns-in-97-to-122 c = letter_small (omega arith) (omega arith)

pub returns-in_default : goal.returns-in_default
returns-in_default c = search letters

pub returns-in_default-2 : goal.returns-in_default-2
returns-in_default-2 c = search letters

pub returns-in_default-3 : goal.returns-in_default-3
returns-in_default-3 c = search letters
