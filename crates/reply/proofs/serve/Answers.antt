use Rattle.std.proofs.Common.{length-take-le, sym}
use Rattle.reply.proofs.Ways.{served, served_count, turned_away}
use Rattle.reply.proofs.serve.Goals as goal

pub slice_bounds-reply-end : goal.slice_bounds-reply-end
slice_bounds-reply-end c = served_count c.args.input.now c.decode.ensures _ c.in-Ok.is

pub slice_bounds-reply-end-in-Ok : goal.slice_bounds-reply-end-in-Ok
slice_bounds-reply-end-in-Ok c = sym (length-take-le _ _ (served_count c.args.input.now c.decode.ensures _ c.in-Ok.is))

pub returns-in-Err : goal.returns-in-Err
returns-in-Err c = turned_away c.args.input.now c.decode.ensures _ c.requires.closed_len.0 c.in-Err.is (rw c.number.ensures at c.refusal.ensures)

pub returns-in-Ok : goal.returns-in-Ok
returns-in-Ok c = served c.args.input.now c.decode.ensures _ c.requires.closed_len.0 c.in-Ok.is c.reply.ensures
