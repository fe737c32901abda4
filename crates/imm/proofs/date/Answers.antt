use Rattle.std.proofs.Common.{arith}
use Rattle.imm.proofs.Ways.{code_digit_range, code_length}
use Rattle.imm.proofs.date.Goals as goal

pub bounds-code-0 : goal.bounds-code-0
bounds-code-0 c = omega (arith, code_length _ _ _ c.is_imm_code.ensures c.if-not-is_imm_code.false)

pub bounds-code-1 : goal.bounds-code-1
bounds-code-1 c = omega (arith, code_length _ _ _ c.is_imm_code.ensures c.if-not-is_imm_code.false)

pub overflow_sub-code : goal.overflow_sub-code
overflow_sub-code c = (code_digit_range _ _ _ c.is_imm_code.ensures c.if-not-is_imm_code.false).0

pub overflow_cast-code : goal.overflow_cast-code
overflow_cast-code c = record { fits = omega (arith, (code_digit_range _ _ _ c.is_imm_code.ensures c.if-not-is_imm_code.false).1) }

pub date_of-requires : goal.date_of-requires
date_of-requires c = omega (arith, (code_digit_range _ _ _ c.is_imm_code.ensures c.if-not-is_imm_code.false).1)
