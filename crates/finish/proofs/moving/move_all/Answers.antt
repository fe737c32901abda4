use Rattle.std.proofs.Common.{rules}
use Rattle.finish.proofs.Moves.{in_place_moved, in_place_none, in_place_refused, in_place_whole}
use Rattle.finish.proofs.moving.move_all.Goals as goal

pub loop-i-init : goal.loop-i-init
loop-i-init c = in_place_none _ _ _ _

pub returns-in_err-s : goal.returns-in_err-s
returns-in_err-s c = in_place_refused c.loop-i.invariant (search rules) _ c.moved.ensures _ _ c.in_err-s.was c.from_residual.ensures

pub loop-i-preserved : goal.loop-i-preserved
loop-i-preserved c = in_place_moved c.loop-i.invariant (search rules) _ c.moved.ensures _ c.in_ok-s.was

pub returns : goal.returns
returns c = in_place_whole c.loop-i.invariant (search rules)
