use Rattle.std.proofs.Common.{arith}
use Rattle.calendar.proofs.Places.{bracket_down, bracket_up}
use Rattle.calendar.proofs.closed_dates.place_up_to.Goals as goal

pub bisect-requires : goal.bisect-requires
bisect-requires c = bracket_up c.loop-step.invariant.0 (omega arith) (omega arith) c.if-closed-at.true

pub loop-step-preserved : goal.loop-step-preserved
loop-step-preserved c = (bracket_down c.loop-step.invariant.0 (omega arith) (omega arith) c.if-closed-at.false, omega arith)
