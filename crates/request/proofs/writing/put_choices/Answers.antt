use Rattle.std.proofs.Common.{[], refl, ◌++◌, ◌∷◌}
use Rattle.calendar.specs.Adjust.{convention_number}
use Rattle.request.proofs.PutWays.{byte_as, laid_then}
use Rattle.request.specs.Encode.{bit, spelt}
use Rattle.steps.specs.Rules.{rule_number}
use Rattle.request.proofs.writing.put_choices.Goals as goal

pub returns : goal.returns
returns c =
    let q = c.args.q.now in
    let convention = spelt 5 (convention_number q.convention ∷ []) in
    let terminal = spelt 6 (convention_number q.terminal ∷ []) in
    let monthend = spelt 7 (bit q.monthend ∷ []) in
    laid_then _ _ _ (spelt 4 (rule_number q.rule ∷ [])) (convention ++ (terminal ++ monthend)) _ _ (byte_as _ _ _ _ _ _ c.put_byte.ensures c.rule_number.ensures)
    (laid_then _ _ _ convention (terminal ++ monthend) _ _ (byte_as _ _ _ _ _ _ c.put_byte-2.ensures c.convention_number.ensures)
    (laid_then _ _ _ terminal monthend _ _ (byte_as _ _ _ _ _ _ c.put_byte-3.ensures c.convention_number-2.ensures) (byte_as _ _ _ _ _ _ c.put_byte-4.ensures c.bit_of.ensures) refl)
    refl)
    refl
