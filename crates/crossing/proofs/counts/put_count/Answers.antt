use Rattle.std.proofs.Common.{ap, rules}
use Rattle.refusal.specs.Answer.{answered_by}
use Rattle.crossing.proofs.Counting.{place_given, place_refused, place_short}
use Rattle.crossing.proofs.counts.put_count.Goals as goal

pub returns-then-list-lt1 : goal.returns-then-list-lt1
returns-then-list-lt1 g c = place_short _ _ _ _ c.refused.type_inv c.if-list-lt1.true c.refused.ensures

pub returns-in-Ok : goal.returns-in-Ok
returns-in-Ok g c = place_given _ _ _ _ c.if-list-lt1.false _ (search rules) (record { sfits = search rules }) (ap (answered_by _) c.in-Ok.is) c.parts-number.ensures.number c.parts-number.ensures.count

pub returns-in-Err : goal.returns-in-Err
returns-in-Err g c = place_refused _ _ _ _ c.refused-in-Err.type_inv c.if-list-lt1.false _ (ap (answered_by _) c.in-Err.is) c.refused-in-Err.ensures
