use Rattle.opendays.proofs.Passing.{stretching}
use Rattle.opendays.proofs.counts.count_stretch.Goals as goal

pub pass-passed-requires : goal.pass-passed-requires
pass-passed-requires c = search stretching

pub overflow_sub-result : goal.overflow_sub-result
overflow_sub-result c = search stretching

pub returns : goal.returns
returns c = search stretching
