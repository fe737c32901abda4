use Rattle.request.proofs.AnswerWays.{readings}
use Rattle.request.proofs.read.Goals as goal

pub returns-then-bytes-gt20000 : goal.returns-then-bytes-gt20000
returns-then-bytes-gt20000 c = search readings

pub asked_from-requires : goal.asked_from-requires
asked_from-requires c = search readings

pub returns-then-find : goal.returns-then-find
returns-then-find c = search readings

pub returns : goal.returns
returns c = search readings
