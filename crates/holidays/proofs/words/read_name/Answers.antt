use Rattle.holidays.proofs.NameWays.{names}
use Rattle.holidays.proofs.words.read_name.Goals as goal

pub returns-then-stands : goal.returns-then-stands
returns-then-stands c = search names

pub returns-then-stands-2 : goal.returns-then-stands-2
returns-then-stands-2 c = search names

pub returns-then-stands-3 : goal.returns-then-stands-3
returns-then-stands-3 c = search names

pub returns-then-stands-4 : goal.returns-then-stands-4
returns-then-stands-4 c = search names

pub returns-then-stands-5 : goal.returns-then-stands-5
returns-then-stands-5 c = search names
