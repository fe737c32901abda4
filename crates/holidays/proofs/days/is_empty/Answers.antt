use Rattle.holidays.proofs.DayWays.{words_of}
use Rattle.holidays.proofs.days.is_empty.Goals as goal

pub returns : goal.returns
returns c = search words_of
