use Rattle.std.proofs.Common.{arith, refl}
use Rattle.refusal.specs.Laws.Searched.{no_refusal}
use Rattle.refusal.proofs.RefusalTryFromU8.try_from.Goals as goal

pub returns-in_default : goal.returns-in_default
returns-in_default c = (refl, no_refusal _ (λ low high. omega arith))
