use Rattle.calendar.proofs.Checks.{Kept}
use Rattle.calendar.proofs.closed_dates.keep_rule.Given as goal

abbrev pub invariant-loop-i : goal.invariant-loop-i
invariant-loop-i l = Kept l.closed l.keeps l.i
