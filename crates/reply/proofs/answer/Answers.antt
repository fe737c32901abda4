use Rattle.std.proofs.Common.{rules}
use Rattle.reply.proofs.Ways.{zeros_fresh}
use Rattle.reply.proofs.answer.Goals as goal

pub serve-requires : goal.serve-requires
serve-requires c = record { closed_len = (search rules, search rules, search rules, search rules); zeros = zeros_fresh 4096 }
