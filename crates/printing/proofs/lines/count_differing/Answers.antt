use Rattle.std.proofs.Common.{arith, refl}
use Rattle.printing.proofs.Laying.{counted_few, counts}
use Rattle.printing.proofs.lines.count_differing.Goals as goal

pub overflow_add-n : goal.overflow_add-n
overflow_add-n c = record { fits = omega (arith, counted_few _ _ c.loop-i.invariant c.loop-i-test.true refl c.unadjusted_at.ensures _ c.differ-n.ensures) }

pub loop-i-preserved : goal.loop-i-preserved
loop-i-preserved c = search counts

pub returns : goal.returns
returns c = search counts
