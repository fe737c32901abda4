use Rattle.std.proofs.Common.{rules}
use Rattle.finish.proofs.Moves.{wednesdays_all, wednesdays_middle, wednesdays_none}
use Rattle.finish.specs.Moving.{done}
use Rattle.finish.proofs.adjusting.third_wednesdays.Goals as goal

pub returns-in-ThirdWednesday : goal.returns-in-ThirdWednesday
returns-in-ThirdWednesday c = λ ok. wednesdays_middle ok _ _ _ _ _ _ c.in-ThirdWednesday.is c.move_middle.ensures

pub returns-in-ThirdWednesdayInclusive : goal.returns-in-ThirdWednesdayInclusive
returns-in-ThirdWednesdayInclusive c = λ ok. wednesdays_all ok _ _ _ _ _ _ c.in-ThirdWednesdayInclusive.is c.move_all.ensures

pub returns-in_default : goal.returns-in_default
unfolding done
returns-in_default c = λ ok. wednesdays_none c.args.rule _ _ _ (search rules)
