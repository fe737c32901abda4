use Rattle.std.proofs.Common.{[], refl, ◌++◌, ◌∷◌}
use Rattle.request.proofs.PutWays.{laid_then}
use Rattle.request.specs.Encode.{bytes4, spelt}
use Rattle.request.proofs.writing.put_anchors.Goals as goal

pub returns : goal.returns
returns c =
    let q = c.args.q.now in
    let second = spelt 9 (bytes4 q.penultimate.day) in
    let mask = spelt 10 (q.mask ∷ []) in
    laid_then _ _ _ (spelt 8 (bytes4 q.first.day)) (second ++ mask) _ _ c.put_date.ensures
    (laid_then _ _ _ second mask _ _ c.put_date-2.ensures c.put_byte.ensures refl)
    refl
