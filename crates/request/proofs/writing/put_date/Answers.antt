use Rattle.std.proofs.Common.{refl}
use Rattle.request.proofs.PutWays.{laid_then}
use Rattle.request.specs.Encode.{bytes4, head_of}
use Rattle.request.proofs.writing.put_date.Goals as goal

pub returns : goal.returns
returns c =
    let a = c.args in
    laid_then _ _ _ (head_of a.tag 4) (bytes4 a.date.day) _ _ c.put_head.ensures c.put_word.ensures refl
