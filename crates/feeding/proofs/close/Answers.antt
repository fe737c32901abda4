use Rattle.feeding.proofs.FeedWays.{finishes}
use Rattle.feeding.proofs.close.Goals as goal

pub returns-then-buffer-lt20000 : goal.returns-then-buffer-lt20000
returns-then-buffer-lt20000 c = search finishes

pub returns : goal.returns
returns c = search finishes
