use Rattle.booked.specs.Laws.Telling.{booked_told}
use Rattle.booked.proofs.build.Goals as goal

pub returns : goal.returns
returns c = booked_told c.one_number.result c.one_number.type_inv c.build.ensures c.one_number.ensures
