use Rattle.coming.proofs.Ways.{back_booked, on_booked, goes_back, goes_on}
use Rattle.coming.proofs.between.Goals as goal

pub behind-requires : goal.behind-requires
behind-requires c = back_booked _ _ c.requires _ c.pace_of-pace.ensures _ c.seed_in-seed.ensures

pub returns-then-is_backward : goal.returns-then-is_backward
returns-then-is_backward c = goes_back _ _ c.requires _ c.pace_of-pace.ensures _ _ c.is_backward.ensures _ c.if-is_backward.true c.seed_in-seed.ensures c.behind.ensures

pub ahead-requires : goal.ahead-requires
ahead-requires c = on_booked _ _ c.requires _ c.pace_of-pace.ensures _ c.seed_in-seed-2.ensures

pub returns : goal.returns
returns c = goes_on _ _ c.requires _ c.pace_of-pace.ensures _ _ c.is_backward.ensures _ c.if-is_backward.false c.seed_in-seed-2.ensures c.ahead.ensures
