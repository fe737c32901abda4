use Rattle.std.proofs.Common.{rules}
use Rattle.refusal.specs.Refusals.{number_of}
use Rattle.crossing.specs.Laws.Calls.{move_as}
use Rattle.capi.proofs.Counting.{placed_as}
use Rattle.capi.proofs.calendars.heronspan_calendar_month_end.Goals as goal

pub returns : goal.returns
returns c = placed_as _ _ (search rules) c.month_end.ensures (move_as number_of c.month_end.result c.put_count.ensures)
