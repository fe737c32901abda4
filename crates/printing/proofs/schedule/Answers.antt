use Rattle.printing.proofs.Whole.{lines_room, schedule_none, schedule_put}
use Rattle.printing.proofs.schedule.Goals as goal

pub put_lines-requires : goal.put_lines-requires
put_lines-requires c = lines_room c.args.dates.now c.args.flags.now c.args.unadjusted.now c.spell-c.ensures c.spell-t.ensures _ c.count_differing-brackets.ensures _ c.args.out.now c.has_room.ensures c.if-has_room.true c.put_header-at.ensures

pub returns-then-has_room : goal.returns-then-has_room
returns-then-has_room c = schedule_put _ _ _ c.spell-c.ensures c.spell-t.ensures _ c.count_differing-brackets.ensures _ _ c.has_room.ensures c.if-has_room.true c.put_header-at.ensures c.put_lines.ensures

pub returns : goal.returns
returns c = schedule_none _ _ _ c.spell-c.ensures c.spell-t.ensures _ c.count_differing-brackets.ensures _ _ c.has_room.ensures c.if-has_room.false
