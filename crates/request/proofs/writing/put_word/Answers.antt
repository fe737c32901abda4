use Rattle.std.proofs.Common.{arith}
use Rattle.request.proofs.PutWays.{four_stores}
use Rattle.request.proofs.writing.put_word.Goals as goal

pub returns : goal.returns
returns c = four_stores _ _ _ _ _ _ _ _ _ (omega arith) (omega arith) (omega arith)
