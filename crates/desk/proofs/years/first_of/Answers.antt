use Rattle.desk.proofs.Ways.{day_first}
use Rattle.desk.proofs.years.first_of.Goals as goal

pub returns : goal.returns
returns c = day_first _ _ _ c.make.ensures c.number_of.ensures
