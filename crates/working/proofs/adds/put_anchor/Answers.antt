use Rattle.working.proofs.Additions.{anchors}
use Rattle.working.proofs.adds.put_anchor.Goals as goal

pub returns-then-anchor-eq0 : goal.returns-then-anchor-eq0
returns-then-anchor-eq0 c = record { run = λ a. search anchors }

pub returns : goal.returns
returns c = record { run = λ a. search anchors }
