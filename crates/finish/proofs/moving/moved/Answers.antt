use Rattle.calendar.specs.Laws.Moved.{took}
use Rattle.steps.specs.Finish.{moved}
use Rattle.finish.proofs.moving.moved.Goals as goal

pub returns-in-ThirdWednesdays : goal.returns-in-ThirdWednesdays
unfolding moved
returns-in-ThirdWednesdays c = λ ok. rw c.in-ThirdWednesdays.is c.third_wednesday.ensures

pub returns-in-Adjust : goal.returns-in-Adjust
unfolding moved
returns-in-Adjust c = λ ok. rw c.in-Adjust.is (took _ _ _ _ c.date_of.ensures (c.adjust.ensures ok))
