use Rattle.finish.specs.Moving.{MovesAs}
use Rattle.finish.proofs.Moves.{Beside}
use Rattle.finish.proofs.moving.pay_each.Given as goal

abbrev pub invariant-loop-i : goal.invariant-loop-i
invariant-loop-i g l =
    Beside (λ f. MovesAs (goal.F-post g l.to) f l.work) l.work l.initial.paid l.paid l.i
