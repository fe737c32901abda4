use Rattle.printing.proofs.Whole.{refusal_none, refusal_put}
use Rattle.printing.proofs.refusal.Goals as goal

pub returns-then-out-d : goal.returns-then-out-d
returns-then-out-d c = refusal_none c.spell-d.ensures _ c.if-out-d.true

pub returns : goal.returns
returns c = refusal_put c.spell-d.ensures c.if-out-d.false c.put_bytes-word.ensures c.put_bytes-last.ensures c.put_byte.ensures
