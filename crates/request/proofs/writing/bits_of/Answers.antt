use Rattle.request.proofs.PutWays.{sixteen}
use Rattle.request.proofs.writing.bits_of.Goals as goal

pub overflow_sub-result : goal.overflow_sub-result
overflow_sub-result c = search sixteen

pub returns-then-is_negative : goal.returns-then-is_negative
returns-then-is_negative c = search sixteen

pub returns : goal.returns
returns c = search sixteen
