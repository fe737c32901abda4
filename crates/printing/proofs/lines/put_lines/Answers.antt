use Rattle.std.proofs.Common.{refl}
use Rattle.printing.proofs.Whole.{first_room, later_room, lines_none, lines_put}
use Rattle.printing.proofs.lines.put_lines.Goals as goal

pub returns-then-dates-eq0 : goal.returns-then-dates-eq0
returns-then-dates-eq0 c = lines_none _ _ _ _ _ c.if-dates-eq0.true

pub put_first-next-requires : goal.put_first-next-requires
put_first-next-requires c = first_room c.args.flags.now c.args.unadjusted.now _ _ c.args.dates.now c.if-dates-eq0.false c.unadjusted_at.ensures _ c.args.out.now c.requires refl

pub put_all_later-requires : goal.put_all_later-requires
put_all_later-requires c = later_room c.args.flags.now c.args.unadjusted.now _ _ c.args.dates.now c.if-dates-eq0.false c.unadjusted_at.ensures c.others.ensures c.put_first-next.ensures c.requires

pub returns : goal.returns
returns c = lines_put c.args.flags.now c.args.unadjusted.now _ _ c.args.dates.now c.if-dates-eq0.false c.unadjusted_at.ensures c.others.ensures c.put_first-next.ensures c.put_all_later.ensures
