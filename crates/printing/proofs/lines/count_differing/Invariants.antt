use Rattle.printing.proofs.Laying.{Counted}
use Rattle.printing.proofs.lines.count_differing.Given as goal

abbrev pub invariant-loop-i : goal.invariant-loop-i
invariant-loop-i l = Counted l.dates l.unadjusted l.n l.i
