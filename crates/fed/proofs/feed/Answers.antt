use Rattle.fed.proofs.FedWays.{feeding}
use Rattle.fed.proofs.feed.Goals as goal

pub returns-then-buffer-lt20000 : goal.returns-then-buffer-lt20000
returns-then-buffer-lt20000 c = search feeding

pub bounds-part-0 : goal.bounds-part-0
bounds-part-0 c = search feeding

pub returns-then-runs : goal.returns-then-runs
returns-then-runs c = search feeding

pub returns : goal.returns
returns c = search feeding

pub run-requires : goal.run-requires
run-requires c = record { words_bound = search feeding; words_in_bounds = search feeding }
