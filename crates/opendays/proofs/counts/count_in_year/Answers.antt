use Rattle.opendays.proofs.Passing.{stretching}
use Rattle.opendays.proofs.counts.count_in_year.Goals as goal

pub count_stretch-stretch-requires : goal.count_stretch-stretch-requires
count_stretch-stretch-requires c = search stretching
