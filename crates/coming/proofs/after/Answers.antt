use Rattle.coming.proofs.Ways.{is_refused, is_first, is_none, is_between, passed}
use Rattle.coming.proofs.after.Goals as goal

pub returns-in_err-check : goal.returns-in_err-check
returns-in_err-check c = is_refused _ _ _ _ c.check.ensures _ _ c.in_err-check.was c.from_residual.ensures

pub returns-then-asked-effective : goal.returns-then-asked-effective
returns-then-asked-effective c = is_first _ _ _ _ c.check.ensures _ c.in_ok-check.was c.if-asked-effective.true

pub returns-then-termination-asked : goal.returns-then-termination-asked
returns-then-termination-asked c = is_none _ _ _ _ c.check.ensures _ c.in_ok-check.was c.if-asked-effective.false c.if-termination-asked.true

pub between-requires : goal.between-requires
between-requires c = passed _ _ _ _ c.check.ensures _ c.in_ok-check.was

pub returns : goal.returns
returns c = is_between _ _ _ _ c.check.ensures _ c.in_ok-check.was c.if-asked-effective.false _ c.if-termination-asked.false c.between.ensures
