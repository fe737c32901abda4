use Rattle.std.proofs.Common.{rules, ◌/◌}
use Rattle.holidays.proofs.DayWays.{put_fits}
use Rattle.holidays.proofs.days.put.Goals as goal

pub overflow_add-map : goal.overflow_add-map
overflow_add-map c = put_fits c.args.map.now c.args.o (search rules) c.requires.o_value
