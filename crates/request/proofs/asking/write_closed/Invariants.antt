use Rattle.request.proofs.WriteWays.{Writing}
use Rattle.request.proofs.asking.write_closed.Given as goal

abbrev pub invariant-loop-j : goal.invariant-loop-j
invariant-loop-j l = Writing l.body l.initial.closed l.closed l.j
