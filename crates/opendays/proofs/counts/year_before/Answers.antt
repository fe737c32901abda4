use Rattle.opendays.proofs.Ranks.{halving}
use Rattle.opendays.proofs.counts.year_before.Goals as goal

pub loop-lo-init : goal.loop-lo-init
loop-lo-init c = search halving

pub loop-lo-preserved-then-count_in-rank : goal.loop-lo-preserved-then-count_in-rank
loop-lo-preserved-then-count_in-rank c = search halving

pub loop-lo-preserved : goal.loop-lo-preserved
loop-lo-preserved c = search halving

pub returns : goal.returns
returns c = search halving
