use Rattle.std.proofs.Common.{ap, sym, ◌∙◌}
use Rattle.calendar.specs.AnyCalendar.{adjusted, by_convention}
use Rattle.calendar.specs.Laws.HowFar.{adjusted_up_to}
use Rattle.calendar.specs.Laws.Search.{span_need}
use Rattle.calendar.specs.Laws.Stays.{open_stays}
use Rattle.calendar.specs.Moves.{moved_from}
use Rattle.calendar.proofs.search.adjust_near.Goals as goal

pub returns-then-is_open_at : goal.returns-then-is_open_at
returns-then-is_open_at c =
    λ ok m. record {
      says = c.stay-then-is_open_at.ensures ∙ ap (moved_from _) (sym (open_stays _ _ (sym (c.is_open_at.ensures ok) ∙ c.if-is_open_at.true) _));
      known = m;
    }

pub returns-in-Unadjusted : goal.returns-in-Unadjusted
unfolding adjusted by_convention
returns-in-Unadjusted c =
    λ ok m. record {
      says = rw c.in-Unadjusted.is (c.stay.ensures ∙ ap (moved_from _) (span_need _));
      known = m;
    }

pub returns-else-is_open_at : goal.returns-else-is_open_at
returns-else-is_open_at c =
    λ ok m. record {
      says = c.measure.ensures.says (adjusted_up_to _ _ _ _ (c.search_near.ensures ok m).says) ∙ ap (moved_from _) (c.search_near.ensures ok m).says;
      known = c.measure.ensures.known (c.search_near.ensures ok m).known m;
    }
