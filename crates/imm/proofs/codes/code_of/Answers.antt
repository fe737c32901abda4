use Rattle.std.proofs.Common.{arith}
use Rattle.date.specs.Laws.Moves.{valid_at}
use Rattle.imm.proofs.Ways.{code_made}
use Rattle.imm.specs.Imm.{letters}
use Rattle.imm.proofs.codes.code_of.Goals as goal

pub overflow_sub-place : goal.overflow_sub-place
overflow_sub-place c = omega (arith, (valid_at _ _ c.fields_of-f.ensures).month)

pub bounds-place : goal.bounds-place
bounds-place c = omega (arith, (valid_at _ _ c.fields_of-f.ensures).month, (valid_at _ _ c.fields_of-f.ensures).twelve)

pub returns : goal.returns
unfolding letters
returns c = code_made _ _ c.fields_of-f.ensures
