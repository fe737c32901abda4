use Rattle.fractions.proofs.Passes.{Rising}
use Rattle.fractions.proofs.reports.in_order.Given as goal

abbrev pub invariant-loop-i : goal.invariant-loop-i
invariant-loop-i l = Rising l.dates l.keeps l.i
