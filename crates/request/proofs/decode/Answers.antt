use Rattle.request.proofs.AnswerWays.{blank}
use Rattle.request.proofs.decode.Goals as goal

pub read-requires : goal.read-requires
read-requires c = blank
