use Rattle.std.proofs.Common.{refl}
use Rattle.date.specs.Laws.Months.{place_by}
use Rattle.date.proofs.civil.place_in.Goals as goal

pub days_before-requires : goal.days_before-requires
days_before-requires c = (place_by _ _ _ _ c.requires c.month_in-m.ensures refl).0

pub overflow_sub-result : goal.overflow_sub-result
overflow_sub-result c = (place_by _ _ _ _ c.requires c.month_in-m.ensures c.days_before.ensures).1

pub returns : goal.returns
returns c = (place_by _ _ _ _ c.requires c.month_in-m.ensures c.days_before.ensures).2
