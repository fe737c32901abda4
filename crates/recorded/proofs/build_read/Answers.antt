use Rattle.std.proofs.Common.{rules}
use Rattle.recorded.proofs.Reading.{closed_as, closed_unread, part_fits, part_is, refusal_is, request_is}
use Rattle.recorded.specs.Laws.Handed.{reported_as}
use Rattle.recorded.proofs.build_read.Goals as goal

pub slice_bounds-told-end : goal.slice_bounds-told-end
slice_bounds-told-end c = search (rules, part_fits)

pub returns-in-Ok : goal.returns-in-Ok
returns-in-Ok c =
    let read = c.in-Ok.is in
    reported_as _ _ (search rules)
    (request_is c.args.bytes.now c.args.closed.now c.decode.new.closed c.decode.result c.decode.ensures _ read)
    (closed_as _ _ _ (part_is c.args.bytes.now c.args.closed.now c.decode.new.closed c.decode.result c.decode.ensures _ read) c.told.ensures)

pub returns-in-Err : goal.returns-in-Err
returns-in-Err c =
    let told = rw c.number.ensures at c.told-in-Err.ensures in
    reported_as _ _ (search rules)
    (refusal_is c.args.bytes.now c.args.closed.now c.decode.new.closed c.decode.result c.decode.ensures _ c.in-Err.is)
    (closed_unread _ told)
