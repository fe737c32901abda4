-- The builds that may search the calendar: a search that finds none of its 31 days open is refusal 13.
-- Assumes nothing.
use Rattle.std.specs.Prelude.{◌≡◌, true, false}
use Rattle.period.specs.declared.Unit.TheVariants.{Days}
use Rattle.calendar.specs.declared.Convention.TheVariants.{Unadjusted}
use Rattle.steps.specs.declared.Request.{Request}
use Rattle.steps.specs.Rules.{rule_in_force, is_backward}

pub data Searches (q : Request) : Type 0 where
  -- one of the two conventions adjusts
  for_convention : (q.convention ≡ Unadjusted → ⊥) → Searches q
  for_terminal : (q.terminal ≡ Unadjusted → ⊥) → Searches q
  -- end of month is on: the seed is asked whether it is at month end
  for_month_end : q.monthend ≡ true → Searches q
  -- the flag of the first date, where the build goes forward: a tenor in days steps open days, whatever the convention
  for_first_date : is_backward (rule_in_force q) ≡ false → (q.first.day ≡ 0 → ⊥) → q.tenor.unit ≡ Days → Searches q

-- no first date is flagged by open days: there is none, the build goes backward, or the tenor is not in days
pub data StepsNoOpenDays (q : Request) : Type 0 where
  no_first : q.first.day ≡ 0 → StepsNoOpenDays q
  backward : is_backward (rule_in_force q) ≡ true → StepsNoOpenDays q
  not_days : (q.tenor.unit ≡ Days → ⊥) → StepsNoOpenDays q
