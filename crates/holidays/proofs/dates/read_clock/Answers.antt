use Rattle.holidays.proofs.DateWays.{clock_no_minute, clock_long, clock_no_second, clock_over, clock_read}
use Rattle.holidays.proofs.dates.read_clock.Goals as goal

pub returns-in_err-minute : goal.returns-in_err-minute
returns-in_err-minute c = rw c.from_residual-in_err-minute.ensures (clock_no_minute c.read_pair.ensures _ _ c.in_ok-hour.was c.if-hour-gt23.false c.read_pair-2.ensures c.in_err-minute.was)

pub returns-then-minute-gt59 : goal.returns-then-minute-gt59
returns-then-minute-gt59 c = clock_long c.read_pair.ensures _ _ c.in_ok-hour.was c.if-hour-gt23.false c.read_pair-2.ensures _ _ c.in_ok-minute.was c.if-minute-gt59.true

pub returns-in_err-second : goal.returns-in_err-second
returns-in_err-second c = rw c.from_residual-in_err-second.ensures (clock_no_second c.read_pair.ensures _ _ c.in_ok-hour.was c.if-hour-gt23.false c.read_pair-2.ensures _ _ c.in_ok-minute.was c.if-minute-gt59.false c.read_pair-3.ensures c.in_err-second.was)

pub returns-then-second-gt60 : goal.returns-then-second-gt60
returns-then-second-gt60 c = clock_over c.read_pair.ensures _ _ c.in_ok-hour.was c.if-hour-gt23.false c.read_pair-2.ensures _ _ c.in_ok-minute.was c.if-minute-gt59.false c.read_pair-3.ensures _ _ c.in_ok-second.was c.if-second-gt60.true

pub returns : goal.returns
returns c = clock_read c.read_pair.ensures _ _ c.in_ok-hour.was c.if-hour-gt23.false c.read_pair-2.ensures _ _ c.in_ok-minute.was c.if-minute-gt59.false c.read_pair-3.ensures _ _ c.in_ok-second.was c.if-second-gt60.false
