use Rattle.reply.proofs.Ways.{built_count, built_replies}
use Rattle.reply.proofs.reply.Goals as goal

pub print_built-requires : goal.print_built-requires
print_built-requires c = built_count _ c.build-built.ensures

pub returns : goal.returns
returns c = built_replies _ c.requires.dates_len.0 c.requires.dates_len.1 c.requires.dates_len.2 c.requires.zeros c.build-built.ensures c.print_built.ensures
