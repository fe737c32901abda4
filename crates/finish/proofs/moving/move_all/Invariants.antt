use Rattle.finish.proofs.Moves.{InPlace}
use Rattle.finish.proofs.moving.move_all.Given as goal

abbrev pub invariant-loop-i : goal.invariant-loop-i
invariant-loop-i l = InPlace l.mask l.closed l.what l.initial.s l.s l.i
