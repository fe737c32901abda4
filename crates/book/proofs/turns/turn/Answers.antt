use Rattle.book.proofs.Turning.{turns}
use Rattle.book.proofs.turns.turn.Goals as goal

pub returns : goal.returns
returns c = search turns
