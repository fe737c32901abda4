use Rattle.working.proofs.Walking.{first_known, first_unknown}
use Rattle.working.proofs.walks.first_tip.Goals as goal

pub returns-then-front-eq0 : goal.returns-then-front-eq0
returns-then-front-eq0 c = λ ok s. first_unknown _ _ _ _ _ _ _ s _ c.newest-newest.ensures _ (c.first_front-front.ensures ok s.sure)

pub returns : goal.returns
returns c = λ ok s. first_known _ _ _ _ _ _ _ s _ c.newest-newest.ensures _ (c.first_front-front.ensures ok s.sure) c.if-front-eq0.false _ _ c.surplus-last.ensures _ c.pay_sure-start.ensures _ c.pay.ensures
