use Rattle.finish.proofs.Moves.{beside_none, beside_moved, beside_refused, beside_whole}
use Rattle.finish.proofs.moving.pay_each.Goals as goal

pub loop-i-init : goal.loop-i-init
loop-i-init g c = beside_none _ _ _

pub returns-in_err-paid : goal.returns-in_err-paid
returns-in_err-paid g c = beside_refused c.loop-i.invariant c.requires.even c.loop-i-test.true c.to.result (λ f s. s c.loop-i.i c.loop-i-test.true c.to.result c.to.ensures) _ _ c.in_err-paid.was c.from_residual.ensures

pub loop-i-preserved : goal.loop-i-preserved
loop-i-preserved g c = beside_moved c.loop-i.invariant c.requires.even c.loop-i-test.true c.to.result (λ f s. s c.loop-i.i c.loop-i-test.true c.to.result c.to.ensures) _ c.in_ok-paid.was

pub returns : goal.returns
returns g c = beside_whole c.loop-i.invariant c.requires.even c.loop-i-test.false
