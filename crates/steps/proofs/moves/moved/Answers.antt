use Rattle.std.proofs.Common.{refl}
use Rattle.calendar.specs.Laws.HowFar.{took_end}
use Rattle.calendar.specs.Laws.Moved.{took}
use Rattle.steps.specs.Finish.{moved}
use Rattle.steps.proofs.moves.moved.Goals as goal

pub returns-in-Stay : goal.returns-in-Stay
unfolding moved
returns-in-Stay c = λ ok. rw c.in-Stay.is refl

pub returns-in-ThirdWednesdays : goal.returns-in-ThirdWednesdays
unfolding moved
returns-in-ThirdWednesdays c = λ ok. rw c.in-ThirdWednesdays.is c.third_wednesday.ensures

pub returns-in-Adjust : goal.returns-in-Adjust
unfolding moved
returns-in-Adjust c = λ ok. rw c.in-Adjust.is (took _ _ _ _ c.date_of.ensures (c.adjust.ensures ok))

pub returns-in-MonthEnds : goal.returns-in-MonthEnds
unfolding moved
returns-in-MonthEnds c = λ ok. rw c.in-MonthEnds.is c.last_of_month.ensures

pub returns-in-OpenMonthEnds : goal.returns-in-OpenMonthEnds
unfolding moved
returns-in-OpenMonthEnds c = λ ok. rw c.in-OpenMonthEnds.is (took_end _ _ _ _ c.date_of-in-OpenMonthEnds.ensures (c.last_open.ensures ok))
