use Rattle.working.proofs.Turns.{turn_on, turn_past, turn_stop}
use Rattle.working.proofs.candidates.try_candidate.Goals as goal

pub returns-in-Err : goal.returns-in-Err
returns-in-Err c = λ ok f. turn_stop _ _ _ _ _ _ _ _ _ _ c.candidate.ensures _ c.in-Err.is

pub returns-then-is_past : goal.returns-then-is_past
returns-then-is_past c = λ ok f. turn_past _ _ _ _ _ _ _ _ _ _ c.candidate.ensures _ c.in-Ok.is _ c.is_past.ensures c.if-is_past.true

pub returns-else-is_past : goal.returns-else-is_past
returns-else-is_past c = λ ok f. turn_on _ _ _ _ _ _ _ _ _ _ c.candidate.ensures _ c.in-Ok.is _ c.is_past.ensures _ c.if-is_past.false (c.compare.ensures ok f)
