use Rattle.filed.proofs.Ways.{published}
use Rattle.filed.proofs.export.Goals as goal

pub returns : goal.returns
returns c = published c.one_number.result c.one_number.type_inv c.export.ensures c.one_number.ensures
