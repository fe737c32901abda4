use Rattle.std.proofs.Common.{rules}
use Rattle.refusal.specs.Answer.{then}
use Rattle.refusal.specs.Refusals.{number_of}
use Rattle.crossing.specs.Laws.Calls.{move_as}
use Rattle.capi.proofs.Counting.{placed_as}
use Rattle.capi.proofs.desks.heronspan_desk_adjust.Goals as goal

pub returns : goal.returns
unfolding then
returns c = placed_as _ _ (search rules) (search rules) (move_as number_of c.and_then-adjusted.result c.put_count.ensures)
