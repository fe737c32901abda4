use Rattle.std.proofs.Common.{arith}
use Rattle.desk.proofs.Ways.{run_other, run_own}
use Rattle.desk.proofs.runs.held.Goals as goal

pub returns-then-own-gt0 : goal.returns-then-own-gt0
returns-then-own-gt0 c = run_own _ _ _ _ c.entries-own.ensures (omega (arith, c.if-own-gt0.true))

pub returns : goal.returns
returns c = run_other _ _ _ _ _ c.entries-own.ensures c.if-own-gt0.false c.entries.ensures
