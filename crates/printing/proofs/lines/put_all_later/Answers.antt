use Rattle.std.proofs.Common.{refl}
use Rattle.printing.proofs.Laying.{laid_more, layings}
use Rattle.printing.proofs.lines.put_all_later.Goals as goal

pub put_later-next-requires : goal.put_later-next-requires
put_later-next-requires c = search layings

pub loop-i-preserved : goal.loop-i-preserved
loop-i-preserved c = laid_more _ _ _ c.loop-i.invariant c.loop-i-test.true refl c.mark_at.ensures c.unadjusted_at-other.ensures c.put_later-next.ensures

pub returns : goal.returns
returns c = search layings
