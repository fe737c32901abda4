use Rattle.std.proofs.Common.{length, ◌≡◌}
use Rattle.steps.specs.Generate.{last_try, walk}
use Rattle.working.proofs.Walking.{Going}
use Rattle.working.specs.Part.{Begun, held, working}
use Rattle.working.specs.Turning.{Started, turn_on}
use Rattle.working.proofs.walks.turns.Given as goal

abbrev pub invariant-loop-k : goal.invariant-loop-k
invariant-loop-k l =
    (length l.work ≡ length l.initial.work) × (length l.paid ≡ length l.initial.paid) × (length l.marks ≡ length l.initial.marks) × (Begun l.closed l.room l.initial.n (working l.initial.work l.initial.marks) → Started l.way.mask l.closed l.way.convention l.course.back l.initial.n l.initial.work l.initial.paid l.first → Going l.course l.way.mask l.closed l.way.convention l.room l.first.start (walk (turn_on l.course l.way.mask l.closed l.way.convention) l.room last_try 1 (held l.course.back l.initial.n (working l.initial.work l.initial.marks))) (working l.work l.marks) l.paid l.n l.k l.known)
