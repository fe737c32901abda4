use Rattle.capi.proofs.Indexing.{indexed_as}
use Rattle.capi.proofs.indexes.heronspan_index_remove.Goals as goal

pub returns : goal.returns
returns c = indexed_as c.of_changed.result c.of_changed.type_inv c.of_changed.ensures c.remove.ensures
