use Rattle.std.proofs.Common.{arith}
use Rattle.request.proofs.PutWays.{request_laid}
use Rattle.request.specs.Laws.Round.{few, fits}
use Rattle.request.proofs.writing.put_request.Goals as goal

pub put_dates-requires : goal.put_dates-requires
put_dates-requires c =
    let p = c.requires in
    (omega (arith, p.0), fits _ c.args.closed.now p.1)

pub put_closed-requires : goal.put_closed-requires
put_closed-requires c =
    let p = c.requires in
    (omega (arith, p.0), few c.args.q.now c.args.closed.now p.1)

pub returns : goal.returns
returns c =
    let p = c.requires in
    request_laid _ _ _ _ _ _ _ c.put_dates.ensures c.put_choices.ensures c.put_anchors.ensures c.put_closed.ensures p.1 p.0
