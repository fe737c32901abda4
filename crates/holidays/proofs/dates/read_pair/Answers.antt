use Rattle.holidays.proofs.DateWays.{pair_bad}
use Rattle.holidays.proofs.dates.read_pair.Goals as goal

pub returns-in_err-number : goal.returns-in_err-number
returns-in_err-number c = rw c.from_residual-in_err-number.ensures (pair_bad c.next.ensures _ _ c.in_ok-a.was c.next-2.ensures _ _ c.in_ok-b.was c.pair_of.ensures c.in_err-number.was)
