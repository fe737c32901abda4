use Rattle.request.proofs.PutWays.{Worded}
use Rattle.request.proofs.writing.put_words.Given as goal

abbrev pub invariant-loop-j : goal.invariant-loop-j
invariant-loop-j l = Worded l.initial.out l.at l.closed l.out l.j
