use Rattle.printing.proofs.Laying.{Laid}
use Rattle.printing.proofs.lines.put_all_later.Given as goal

abbrev pub invariant-loop-i : goal.invariant-loop-i
invariant-loop-i l = Laid l.dates l.flags l.unadjusted l.at l.initial.out l.out l.next l.i
