use Rattle.holidays.proofs.DayWays.{bits_of}
use Rattle.holidays.proofs.days.is_set.Goals as goal

pub returns : goal.returns
returns c = search bits_of
