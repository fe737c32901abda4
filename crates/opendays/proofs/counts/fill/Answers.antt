use Rattle.opendays.proofs.Filling.{filling}
use Rattle.opendays.proofs.counts.fill.Goals as goal

pub loop-i-init : goal.loop-i-init
loop-i-init c = search filling

pub count_stretch-year-requires : goal.count_stretch-year-requires
count_stretch-year-requires c = search filling

pub overflow_add-count : goal.overflow_add-count
overflow_add-count c = search filling

pub loop-i-preserved : goal.loop-i-preserved
loop-i-preserved c = search filling

pub returns : goal.returns
returns c = search filling
