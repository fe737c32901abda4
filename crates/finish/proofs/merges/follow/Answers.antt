use Rattle.std.proofs.Common.{ap, ◌∙◌}
use Rattle.finish.specs.Following.{follow_front}
use Rattle.finish.proofs.merges.follow.Goals as goal

pub returns : goal.returns
returns c = c.follow_front.ensures ∙ ap (follow_front _) c.follow_end.ensures
