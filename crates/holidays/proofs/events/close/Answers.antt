use Rattle.holidays.proofs.EventWays.{closings}
use Rattle.holidays.proofs.events.close.Goals as goal

pub returns-in_default : goal.returns-in_default
returns-in_default c = search closings

pub returns-then-past-first : goal.returns-then-past-first
returns-then-past-first c = search closings

pub returns-then-first-lt803169 : goal.returns-then-first-lt803169
returns-then-first-lt803169 c = search closings

pub returns-then-past-gt1022314 : goal.returns-then-past-gt1022314
returns-then-past-gt1022314 c = search closings

pub returns-in-Some-add_days : goal.returns-in-Some-add_days
returns-in-Some-add_days c = search closings

pub returns-in-None : goal.returns-in-None
returns-in-None c = search closings
