use Rattle.std.proofs.Common.{rules}
use Rattle.finish.proofs.Pays.{still_all, still_middle, still_other}
use Rattle.finish.proofs.adjusting.still_paid.Goals as goal

pub returns-in-ThirdWednesday : goal.returns-in-ThirdWednesday
returns-in-ThirdWednesday c = still_middle _ _ c.in-ThirdWednesday.is

pub returns-in-ThirdWednesdayInclusive : goal.returns-in-ThirdWednesdayInclusive
returns-in-ThirdWednesdayInclusive c = still_all _ _ c.in-ThirdWednesdayInclusive.is

pub returns-in_default : goal.returns-in_default
returns-in_default c = still_other _ _ (search rules)
