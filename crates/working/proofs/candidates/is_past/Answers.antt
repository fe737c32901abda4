use Rattle.std.proofs.Common.{refl}
use Rattle.working.proofs.Turns.{past_back, past_forth}
use Rattle.working.proofs.candidates.is_past.Goals as goal

pub returns-then-back : goal.returns-then-back
returns-then-back c = past_back _ _ _ _ c.if-back.true refl

pub returns-else-back : goal.returns-else-back
returns-else-back c = past_forth _ _ _ _ c.if-back.false refl
