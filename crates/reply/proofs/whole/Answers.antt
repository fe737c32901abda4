use Rattle.std.proofs.Common.{rules}
use Rattle.reply.proofs.Ways.{printed_whole}
use Rattle.reply.proofs.whole.Goals as goal

pub returns : goal.returns
returns c = printed_whole _ (search rules) c.answer.ensures
