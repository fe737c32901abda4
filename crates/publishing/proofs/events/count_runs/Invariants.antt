use Rattle.publishing.proofs.Runs.{Counted}
use Rattle.publishing.proofs.events.count_runs.Given as goal

abbrev pub invariant-loop-i : goal.invariant-loop-i
invariant-loop-i l = Counted l.list l.runs l.past l.i
