use Rattle.std.proofs.Common.{rules, ap, ◌∙◌}
use Rattle.request.specs.Format.{unit_of}
use Rattle.request.proofs.AskWays.{tenor_is}
use Rattle.request.proofs.asking.tenor_of.Goals as goal

pub returns : goal.returns
returns c = tenor_is c.args.body.now c.pair_in.ensures (search rules) c.signed.ensures (c.unit_of.ensures ∙ ap unit_of c.byte_of.ensures)
