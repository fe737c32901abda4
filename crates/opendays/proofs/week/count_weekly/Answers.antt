use Rattle.opendays.proofs.Weeks.{weeks}
use Rattle.opendays.proofs.week.count_weekly.Goals as goal

pub overflow_mul-result : goal.overflow_mul-result
overflow_mul-result c = search weeks

pub overflow_add-result : goal.overflow_add-result
overflow_add-result c = search weeks

pub returns : goal.returns
returns c = search weeks
