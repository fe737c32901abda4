use Rattle.publishing.proofs.Runs.{counted_same, counted_new, counts}
use Rattle.publishing.proofs.events.count_runs.Goals as goal
use Rattle.publishing.proofs.events.count_runs.Goals.{then-day-past, else-day-past}

pub loop-i-preserved : goal.loop-i-preserved
loop-i-preserved c =
    elim c.if-day-past.branch [
      | then-day-past w ↦ rw w.runs-is (counted_new c.loop-i.invariant c.loop-i-test.true w.if-day-past.true)
      | else-day-past w ↦ rw w.runs-is (counted_same c.loop-i.invariant c.loop-i-test.true w.if-day-past.false)
    ]

pub returns : goal.returns
returns c = search counts
