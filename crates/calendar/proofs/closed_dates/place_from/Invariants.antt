use Rattle.std.proofs.Common.{length, ◌-◌, ◌≤◌}
use Rattle.calendar.specs.Inner.Places.{Bracket}
use Rattle.calendar.proofs.closed_dates.place_from.Given as goal

abbrev pub invariant-loop-step : goal.invariant-loop-step
invariant-loop-step l = Bracket l.closed l.x l.lo (length l.closed) × (1 ≤ l.step)

abbrev pub decreases-loop-step : goal.decreases-loop-step
decreases-loop-step l = length l.closed - l.lo
