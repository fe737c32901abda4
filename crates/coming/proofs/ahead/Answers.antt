use Rattle.coming.proofs.Ways.{from_seed}
use Rattle.coming.proofs.ahead.Goals as goal

pub overflow_add-k : goal.overflow_add-k
overflow_add-k c = search from_seed
