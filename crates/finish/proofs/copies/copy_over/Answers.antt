use Rattle.finish.proofs.Copying.{copied_more}
use Rattle.finish.proofs.copies.copy_over.Goals as goal

pub loop-i-preserved : goal.loop-i-preserved
loop-i-preserved g c = copied_more c.loop-i.invariant c.requires c.loop-i-test.true c.index-src-i.is
