use Rattle.request.proofs.PutWays.{encoding}
use Rattle.request.proofs.encode.Goals as goal

pub returns-then-out-size : goal.returns-then-out-size
returns-then-out-size c = search encoding

pub returns-then-not-is_sayable : goal.returns-then-not-is_sayable
returns-then-not-is_sayable c = search encoding

pub returns : goal.returns
returns c = search encoding
