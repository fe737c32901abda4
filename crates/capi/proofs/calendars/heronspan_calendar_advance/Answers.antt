use Rattle.std.proofs.Common.{rules}
use Rattle.refusal.specs.Answer.{then}
use Rattle.calendar.specs.Moves.{advance_move_of}
use Rattle.refusal.specs.Refusals.{number_of}
use Rattle.crossing.specs.Laws.Calls.{move_as, same_count}
use Rattle.crossing.specs.Numbers.{convention_of, flag_of, unit_of}
use Rattle.capi.proofs.Counting.{placed_as}
use Rattle.capi.proofs.calendars.heronspan_calendar_advance.Goals as goal

pub returns : goal.returns
returns c =
    let a = c.args in
    placed_as _ _ (search rules)
    (same_count (λ z. then (unit_of a.unit) (λ u. then (convention_of a.convention) (λ k. then (flag_of a.monthend) (λ m. advance_move_of a.mask a.closed.now z u k m a.day)))) _ _ c.ranges.tenor c.advanced.ensures)
    (move_as number_of c.advanced.result c.put_count.ensures)
