use Rattle.printing.proofs.Putting.{put_then}
use Rattle.printing.proofs.put_header.Goals as goal

pub returns : goal.returns
returns c = put_then (put_then (put_then c.put_bytes-dates.ensures c.put_bytes-second.ensures) c.put_bytes-last.ensures) c.put_bytes.ensures
