use Rattle.opendays.proofs.Moving.{nth_ways}
use Rattle.opendays.proofs.search.nth_after.Goals as goal

pub overflow_add-day : goal.overflow_add-day
overflow_add-day c = search nth_ways

pub rank-requires : goal.rank-requires
rank-requires c = search nth_ways

pub overflow_add-rank : goal.overflow_add-rank
overflow_add-rank c = search nth_ways

pub overflow_add-day-2 : goal.overflow_add-day-2
overflow_add-day-2 c = search nth_ways

pub place_of-requires : goal.place_of-requires
place_of-requires c = search nth_ways

pub year_before-year-requires : goal.year_before-year-requires
year_before-year-requires c = search nth_ways

pub kth_open-requires : goal.kth_open-requires
kth_open-requires c = search nth_ways

pub returns : goal.returns
returns c = search nth_ways
