use Rattle.working.proofs.Walking.{newest_sure, none_paid}
use Rattle.working.proofs.walks.pay_sure.Goals as goal

pub returns-then-sure-eq0 : goal.returns-then-sure-eq0
returns-then-sure-eq0 c = λ A s z. none_paid A _ z

pub returns-then-n-eq0 : goal.returns-then-n-eq0
returns-then-n-eq0 c = λ A s z. none_paid A _ z

pub returns-then-newest-sure : goal.returns-then-newest-sure
returns-then-newest-sure c = λ A s z. none_paid A _ z

pub returns : goal.returns
returns c = λ A s z. newest_sure A _ z _ s c.if-sure-eq0.false c.if-n-eq0.false _ c.newest.ensures c.if-newest-sure.false _ c.pay.ensures
