use Rattle.std.proofs.Common.{arith, sym, ◌∙◌}
use Rattle.finish.proofs.Pays.{last_paid}
use Rattle.finish.proofs.adjusting.is_last_paid.Goals as goal

pub returns-else-known-n : goal.returns-else-known-n
returns-else-known-n c = λ h. last_paid _ _ _ _ _ c.in-Adjust.is (sym c.is_same.ensures ∙ h) (omega (arith, c.if-n-known.false)) (omega (arith, c.if-known-n.false))
