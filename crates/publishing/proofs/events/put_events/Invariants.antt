use Rattle.publishing.proofs.Runs.{Laid}
use Rattle.publishing.proofs.events.put_events.Given as goal

abbrev pub invariant-loop-i : goal.invariant-loop-i
invariant-loop-i l = Laid l.list l.at l.initial.out l.out l.first l.past l.next l.i
