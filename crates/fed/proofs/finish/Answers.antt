use Rattle.fed.proofs.FedWays.{steps}
use Rattle.fed.proofs.finish.Goals as goal

pub returns-then-buffer-lt20000 : goal.returns-then-buffer-lt20000
returns-then-buffer-lt20000 c = search steps

pub returns : goal.returns
returns c = search steps
