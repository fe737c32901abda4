use Rattle.desk.proofs.Ways.{day_last}
use Rattle.desk.proofs.years.last_of.Goals as goal

pub returns : goal.returns
returns c = day_last _ _ _ c.make.ensures c.number_of.ensures
