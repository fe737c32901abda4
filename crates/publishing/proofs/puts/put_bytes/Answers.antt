use Rattle.std.proofs.Common.{arith}
use Rattle.publishing.proofs.Putting.{put_over}
use Rattle.publishing.proofs.puts.put_bytes.Goals as goal

pub returns : goal.returns
returns c = put_over c.args.text.now c.args.out.now c.args.at _ c.requires c.copy_from_slice.ensures.after (omega arith)
