use Rattle.std.proofs.Common.{rules}
use Rattle.steps.specs.Build.{over}
use Rattle.crossing.proofs.Laying.{numbers_laid, numbers_refused, numbers_short}
use Rattle.crossing.proofs.years.put_numbers.Goals as goal

pub returns-then-list : goal.returns-then-list
returns-then-list g c = numbers_short _ _ _ _ c.refused.type_inv c.if-list.true c.refused.ensures

pub returns-in-Ok : goal.returns-in-Ok
unfolding over
returns-in-Ok g c = numbers_laid _ _ _ _ c.if-list.false _ _ c.in-Ok.is (search rules)

pub returns-in-Err : goal.returns-in-Err
returns-in-Err g c = numbers_refused _ _ _ _ c.refused-in-Err.type_inv c.if-list.false _ c.in-Err.is c.refused-in-Err.ensures
