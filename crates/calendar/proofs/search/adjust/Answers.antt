use Rattle.std.proofs.Common.{ap, sym, ◌∙◌}
use Rattle.calendar.specs.AnyCalendar.{adjusted, by_convention}
use Rattle.calendar.specs.Laws.HowFar.{adjusted_up_to}
use Rattle.calendar.specs.Laws.Search.{span_need}
use Rattle.calendar.specs.Laws.Stays.{open_stays}
use Rattle.calendar.specs.Moves.{moved_from}
use Rattle.calendar.proofs.search.adjust.Goals as goal

pub returns-then-is_open_at : goal.returns-then-is_open_at
returns-then-is_open_at c = λ ok. c.stay-then-is_open_at.ensures ∙ ap (moved_from _) (sym (open_stays _ _ (sym (c.is_open_at.ensures ok) ∙ c.if-is_open_at.true) _))

pub returns-in-Unadjusted : goal.returns-in-Unadjusted
unfolding adjusted by_convention
returns-in-Unadjusted c = λ ok. rw c.in-Unadjusted.is (c.stay.ensures ∙ ap (moved_from _) (span_need _))

pub returns-else-is_open_at : goal.returns-else-is_open_at
returns-else-is_open_at c = λ ok. c.to.ensures (adjusted_up_to _ _ _ _ (c.search_from.ensures ok)) ∙ ap (moved_from _) (c.search_from.ensures ok)
