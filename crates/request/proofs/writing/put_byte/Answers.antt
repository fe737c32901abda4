use Rattle.std.proofs.Common.{[], refl, ◌∷◌}
use Rattle.request.proofs.PutWays.{laid_then, one_store}
use Rattle.request.specs.Encode.{head_of}
use Rattle.request.proofs.writing.put_byte.Goals as goal

pub returns : goal.returns
returns c =
    let a = c.args in
    laid_then _ _ _ (head_of a.tag 1) (a.b ∷ []) _ _ c.put_head.ensures (one_store _ _ _) refl
