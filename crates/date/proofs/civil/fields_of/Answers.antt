use Rattle.std.proofs.Common.{ap, arith, ◌∙◌}
use Rattle.date.specs.Civil.{fields_at}
use Rattle.date.proofs.civil.fields_of.Goals as goal

pub returns-then-n-eq0 : goal.returns-then-n-eq0
returns-then-n-eq0 c = c.fields_at.ensures ∙ ap fields_at (omega arith)
