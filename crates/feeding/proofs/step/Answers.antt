use Rattle.feeding.proofs.FeedWays.{feeds}
use Rattle.feeding.proofs.step.Goals as goal

pub returns-then-buffer-lt20000 : goal.returns-then-buffer-lt20000
returns-then-buffer-lt20000 c = search feeds

pub returns-then-state-eq0 : goal.returns-then-state-eq0
returns-then-state-eq0 c = search feeds

pub returns : goal.returns
returns c = search feeds
