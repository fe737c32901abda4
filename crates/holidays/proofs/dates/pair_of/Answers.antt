use Rattle.holidays.proofs.DateWays.{pair_not, pair_then_not, pair_is}
use Rattle.holidays.proofs.dates.pair_of.Goals as goal

pub returns-in_err-tens : goal.returns-in_err-tens
returns-in_err-tens c = rw c.from_residual.ensures (pair_not c.digit.ensures c.in_err-tens.was)

pub returns-in_err-ones : goal.returns-in_err-ones
returns-in_err-ones c = rw c.from_residual-in_err-ones.ensures (pair_then_not c.digit.ensures _ c.in_ok-tens.was c.digit-2.ensures c.in_err-ones.was)

pub returns : goal.returns
returns c = pair_is c.digit.ensures _ c.in_ok-tens.was c.digit-2.ensures _ c.in_ok-ones.was
