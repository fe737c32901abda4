use Rattle.std.proofs.Common.{arith}
use Rattle.date.specs.Date.{month_index, shift_months}
use Rattle.date.specs.Laws.Moves.{valid_at}
use Rattle.date.proofs.span.shift_months.Goals as goal

pub overflow_sub-f : goal.overflow_sub-f
overflow_sub-f c = omega (arith, (valid_at _ _ c.fields_of-f.ensures).year)

pub returns : goal.returns
unfolding shift_months month_index
returns c = cc
