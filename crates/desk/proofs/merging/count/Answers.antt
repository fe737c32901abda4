use Rattle.std.proofs.Common.{arith, rules}
use Rattle.desk.proofs.Turning.{count_all, count_more, count_none, count_small, fewer}
use Rattle.desk.proofs.merging.count.Goals as goal

pub loop-rest-init : goal.loop-rest-init
loop-rest-init c = count_none _ _ c.args.lists.desk_kept c.args.lists.house_kept

pub overflow_add-n-in-loop-rest : goal.overflow_add-n-in-loop-rest
overflow_add-n-in-loop-rest c = record { fits = omega (arith, count_small c.loop-rest.invariant c.first_year-t.ensures) }

pub loop-rest-smaller : goal.loop-rest-smaller
loop-rest-smaller c = fewer _ _ _ _ _ c.first_year-t.ensures _ c.rest_of-rest.ensures.0

pub loop-rest-preserved : goal.loop-rest-preserved
loop-rest-preserved c = count_more c.loop-rest.invariant c.first_year-t.ensures c.rest_of-rest.ensures

pub overflow_add-result : goal.overflow_add-result
overflow_add-result c = record { fits = omega (arith, c.loop-rest.invariant.small, count_all c.loop-rest.invariant c.loop-rest.rest.house_kept (search rules)) }

pub returns : goal.returns
returns c = count_all c.loop-rest.invariant c.loop-rest.rest.house_kept (search rules)
