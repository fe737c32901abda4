use Rattle.holidays.proofs.DateWays.{number_is, number_ways}
use Rattle.holidays.proofs.dates.number_of.Goals as goal

pub returns-in-Ok : goal.returns-in-Ok
returns-in-Ok c = number_is c.args.year c.args.month c.args.day c.make.ensures _ c.in-Ok.is c.requires c.on_by_cycles.ensures

pub returns-in-Err : goal.returns-in-Err
returns-in-Err c = search number_ways
