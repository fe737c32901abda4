use Rattle.std.proofs.Common.{ap, nat_abs, ◌∙◌, rules}
use Rattle.calendar.specs.Laws.AdvanceMoves.{took_advanced}
use Rattle.opening.proofs.Openers.{tenor_is}
use Rattle.period.specs.Laws.Signed.{same32}
use Rattle.opening.proofs.second.tenor_on.Goals as goal

pub returns : goal.returns
returns c =
    λ ok. took_advanced _ _ _ _ _ _ _ _ _ _ c.date_of.ensures (c.advance.ensures ok)
    ∙ tenor_is _ _ _ _ (c.size-size.ensures ∙ ap nat_abs (same32 c.args.q.now.tenor.length (record { sfits = search rules })))
