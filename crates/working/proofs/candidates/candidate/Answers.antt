use Rattle.std.proofs.Common.{arith, refl}
use Rattle.working.proofs.Counting.{candidate_days, candidate_far, candidate_months}
use Rattle.working.proofs.candidates.candidate.Goals as goal

pub returns-then-n : goal.returns-then-n
returns-then-n c = candidate_far _ _ _ _ _ refl (omega arith) (omega arith) c.if-n.true

pub returns-then-pace : goal.returns-then-pace
returns-then-pace c = candidate_months _ _ _ _ _ c.if-pace.true c.months_from.ensures

pub returns-else-pace : goal.returns-else-pace
returns-else-pace c = candidate_days _ _ _ _ _ c.if-pace.false c.shift_by.ensures
