use Rattle.printing.proofs.Digits.{Spelling}
use Rattle.printing.proofs.numbers.spell.Given as goal

abbrev pub invariant-loop-left : goal.invariant-loop-left
invariant-loop-left l = Spelling l.n l.left l.at l.digits

abbrev pub decreases-loop-left : goal.decreases-loop-left
decreases-loop-left l = l.at
