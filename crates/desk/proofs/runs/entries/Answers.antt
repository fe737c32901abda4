use Rattle.std.proofs.Common.{sym}
use Rattle.desk.proofs.runs.entries.Goals as goal

pub returns : goal.returns
returns c = sym c.stretch_of-at.ensures.same
