use Rattle.fractions.proofs.Passes.{risings}
use Rattle.fractions.proofs.reports.in_order.Goals as goal

pub loop-i-init : goal.loop-i-init
loop-i-init c = search risings

pub loop-i-preserved : goal.loop-i-preserved
loop-i-preserved c = search risings

pub returns : goal.returns
returns c = search risings
