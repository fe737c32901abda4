use Rattle.std.proofs.Common.{◌≤◌}
use Rattle.calendar.specs.Inner.Places.{Bracket}
use Rattle.calendar.proofs.closed_dates.place_up_to.Given as goal

abbrev pub invariant-loop-step : goal.invariant-loop-step
invariant-loop-step l = Bracket l.closed l.x 0 l.hi × (1 ≤ l.step)

abbrev pub decreases-loop-step : goal.decreases-loop-step
decreases-loop-step l = l.hi
