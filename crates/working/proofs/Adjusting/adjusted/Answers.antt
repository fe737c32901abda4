use Rattle.std.proofs.Common.{sym, ◌∙◌}
use Rattle.calendar.specs.Laws.Moved.{took}
use Rattle.refusal.specs.Laws.Answers.{handed_on}
use Rattle.date.specs.Laws.Made.{given_day, refused_day}
use Rattle.working.proofs.Adjusting.adjusted.Goals as goal

pub returns-in_err-found : goal.returns-in_err-found
returns-in_err-found c = λ ok. handed_on _ _ c.from_residual.ensures ∙ sym (refused_day _ _ _ (took _ _ _ _ c.date_of.ensures (c.adjust.ensures ok)) c.in_err-found.was)

pub returns : goal.returns
returns c = λ ok. sym (given_day _ _ _ (took _ _ _ _ c.date_of.ensures (c.adjust.ensures ok)) c.in_ok-found.was)
