use Rattle.std.proofs.Common.{arith}
use Rattle.request.proofs.PutWays.{three_stores}
use Rattle.request.proofs.writing.put_head.Goals as goal

pub returns : goal.returns
returns c = three_stores _ _ _ _ _ _ _ (omega arith) (omega arith)
