use Rattle.std.proofs.Common.{arith, refl, rules}
use Rattle.request.proofs.PutWays.{laid_then, tenor_stores}
use Rattle.request.specs.Encode.{head_of, tenor_body}
use Rattle.request.proofs.writing.put_tenor.Goals as goal

pub returns : goal.returns
returns c =
    laid_then _ _ _ (head_of 3 3) (tenor_body c.args.tenor) _ _ c.put_head.ensures
    (tenor_stores _ _ _ _ _ _ _ (omega arith) (omega arith) c.letter_of-letter.ensures (record { sfits = search rules }) c.bits_of-n.ensures)
    refl
