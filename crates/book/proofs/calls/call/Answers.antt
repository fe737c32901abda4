use Rattle.std.proofs.Common.{◌≡◌, length, rules, arith}
use Rattle.book.proofs.Calling.{asked_calls, asked_fits, built_calls, refused_calls}
use Rattle.book.proofs.calls.call.Goals as goal

pub slice_bounds-build_in-end : goal.slice_bounds-build_in-end
slice_bounds-build_in-end c =
    let l : length c.decode.new.closed ≡ length c.args.closed.now = search rules in
    let s : length c.args.closed.now ≡ 4096 = search rules in
    omega (arith, asked_fits c.args.bytes.now c.args.closed.now c.decode.new.closed c.decode.result c.decode.ensures s _ c.in-Ok.is l, l, s)

pub returns-in-Ok : goal.returns-in-Ok
returns-in-Ok c = asked_calls c.args.bytes.now c.args.closed.now c.decode.new.closed c.decode.result c.decode.ensures (search rules) _ c.in-Ok.is _ _ _ _ _ _ _ (built_calls _ c.build_in.ensures)

pub returns-in-Err : goal.returns-in-Err
returns-in-Err c = refused_calls c.args.bytes.now c.args.closed.now c.decode.new.closed c.decode.result c.decode.ensures (search rules) _ _ _ c.in-Err.is c.number.ensures c.refused.ensures _ _ _
