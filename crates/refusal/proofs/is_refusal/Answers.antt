use Rattle.std.proofs.Common.{◌∙◌}
use Rattle.refusal.specs.Laws.Searched.{told_by_reading}
use Rattle.refusal.proofs.is_refusal.Goals as goal

pub returns : goal.returns
returns c = c.is_ok.ensures.value ∙ told_by_reading _ _ c.try_from.ensures
