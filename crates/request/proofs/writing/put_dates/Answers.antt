use Rattle.std.proofs.Common.{refl, ◌++◌}
use Rattle.request.proofs.PutWays.{laid_then}
use Rattle.request.specs.Encode.{bytes4, spelt, tenor_body}
use Rattle.request.proofs.writing.put_dates.Goals as goal

pub returns : goal.returns
returns c =
    let q = c.args.q.now in
    let second = spelt 2 (bytes4 q.termination.day) in
    let tenor = spelt 3 (tenor_body q.tenor) in
    laid_then _ _ _ (spelt 1 (bytes4 q.effective.day)) (second ++ tenor) _ _ c.put_date.ensures
    (laid_then _ _ _ second tenor _ _ c.put_date-2.ensures c.put_tenor.ensures refl)
    refl
