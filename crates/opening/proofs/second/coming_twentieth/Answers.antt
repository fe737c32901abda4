use Rattle.std.proofs.Common.{arith, ◌∙◌}
use Rattle.opening.proofs.Openers.{coming_far, coming_few, coming_here, coming_stop}
use Rattle.opening.proofs.second.coming_twentieth.Goals as goal

pub returns-in_err-coming : goal.returns-in_err-coming
returns-in_err-coming c = coming_stop _ _ _ c.next.ensures _ c.in_err-coming.was _ c.from_residual.ensures

pub overflow_add-coming : goal.overflow_add-coming
overflow_add-coming c = record { fits = omega (arith, coming_few _ _ _ c.next.ensures _ c.in_ok-coming.was) }

pub returns-then-is_near : goal.returns-then-is_near
returns-then-is_near c = c.next-then-is_near.ensures ∙ coming_far _ _ _ c.next.ensures _ c.in_ok-coming.was _ c.is_near.ensures c.if-is_near.true

pub returns : goal.returns
returns c = coming_here _ _ _ c.next.ensures _ c.in_ok-coming.was _ c.is_near.ensures c.if-is_near.false
