use Rattle.fed.proofs.WordWays.{Numbering}
use Rattle.fed.proofs.words.put_numbers.Given as goal

abbrev pub invariant-loop-i : goal.invariant-loop-i
invariant-loop-i l = Numbering l.initial.words l.numbers l.words l.i
