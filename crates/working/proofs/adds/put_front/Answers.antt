use Rattle.working.proofs.Additions.{stood_ready, stood_refused}
use Rattle.working.proofs.adds.put_front.Goals as goal

pub returns-in_err-n : goal.returns-in_err-n
returns-in_err-n c = λ part size. stood_refused _ _ _ _ _ part _ _ (c.put.ensures.run part) _ c.in_err-n.was _ _ c.from_residual.ensures

pub returns : goal.returns
returns c = λ part size. stood_ready _ _ _ _ _ part _ _ (c.put.ensures.run part) _ c.in_ok-n.was _ size c.pay.ensures
