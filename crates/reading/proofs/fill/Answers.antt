use Rattle.std.proofs.Common.{rules}
use Rattle.reading.proofs.Filling.{read_more}
use Rattle.reading.proofs.fill.Goals as goal

pub loop-done-preserved : goal.loop-done-preserved
loop-done-preserved g c =
    (search rules, read_more _ _ _ c.loop-done.room c.read.new.buf _ _ _ c.loop-done.invariant.0 c.in_ok-n.ensures.bound.0 c.loop-done.invariant.1 c.in_ok-n.ensures.bytes.0)
