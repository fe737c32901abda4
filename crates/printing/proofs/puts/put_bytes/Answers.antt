use Rattle.std.proofs.Common.{arith, rules}
use Rattle.printing.proofs.Putting.{put_part}
use Rattle.printing.proofs.puts.put_bytes.Goals as goal

pub returns : goal.returns
returns c = put_part c.args.text.now _ c.args.out.now _ _ c.requires (omega arith) (search rules)
