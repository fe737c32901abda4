use Rattle.std.proofs.Common.{true}
use Rattle.calendar.proofs.Days.{Days, Scan}
use Rattle.calendar.proofs.scan.behind.Given as goal

abbrev pub invariant-scan : goal.invariant-scan
invariant-scan l = Scan true l.closed l.here l.at

abbrev pub decreases-scan : goal.decreases-scan
decreases-scan l = l.at

abbrev pub invariant-days : goal.invariant-days
invariant-days l = Days true l.mask l.closed l.tries l.day l.d l.left l.at l.weekday

abbrev pub decreases-days : goal.decreases-days
decreases-days l = l.left
