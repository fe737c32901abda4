use Rattle.std.proofs.Common.{arith, ◌∙◌}
use Rattle.date.proofs.Ends.{last_by}
use Rattle.date.specs.Laws.Moves.{valid_at}
use Rattle.date.proofs.span.last_of_month.Goals as goal

pub overflow_sub-f : goal.overflow_sub-f
overflow_sub-f c = omega (arith, (valid_at _ _ c.fields_of-f.ensures).year)

pub returns : goal.returns
returns c = c.in_month.ensures ∙ last_by _ _ c.fields_of-f.ensures
