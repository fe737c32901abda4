use Rattle.capi.proofs.Indexing.{indexed_as}
use Rattle.capi.proofs.indexes.heronspan_index_make.Goals as goal

pub returns : goal.returns
returns c = indexed_as c.one_number.result c.one_number.type_inv c.one_number.ensures c.make.ensures
