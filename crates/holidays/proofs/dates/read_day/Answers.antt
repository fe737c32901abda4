use Rattle.std.proofs.Common.{arith}
use Rattle.holidays.proofs.DateWays.{pair_few, day_year, day_no_day, day_never}
use Rattle.holidays.proofs.dates.read_day.Goals as goal

pub returns-in_err-day : goal.returns-in_err-day
returns-in_err-day c = rw c.from_residual-in_err-day.ensures (day_no_day c.read_pair.ensures _ _ c.in_ok-century.was c.read_pair-2.ensures _ _ c.in_ok-year.was c.read_pair-3.ensures _ _ c.in_ok-month.was c.read_pair-4.ensures c.in_err-day.was)

pub overflow_mul-century : goal.overflow_mul-century
overflow_mul-century c = record { fits = omega (arith, pair_few c.read_pair.ensures _ _ c.in_ok-century.was) }

pub overflow_add-century : goal.overflow_add-century
overflow_add-century c = record { fits = omega (arith, day_year c.read_pair.ensures _ _ c.in_ok-century.was c.read_pair-2.ensures _ _ c.in_ok-year.was c.read_pair-3.ensures) }

pub number_of-requires : goal.number_of-requires
number_of-requires c = day_year c.read_pair.ensures _ _ c.in_ok-century.was c.read_pair-2.ensures _ _ c.in_ok-year.was c.read_pair-3.ensures

pub returns-in_err-number : goal.returns-in_err-number
returns-in_err-number c = rw c.from_residual-in_err-number.ensures (day_never c.read_pair.ensures _ _ c.in_ok-century.was c.read_pair-2.ensures _ _ c.in_ok-year.was c.read_pair-3.ensures _ _ c.in_ok-month.was c.read_pair-4.ensures _ _ c.in_ok-day.was c.number_of.ensures c.in_err-number.was)
