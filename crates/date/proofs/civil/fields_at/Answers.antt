use Rattle.std.proofs.Common.{arith, ◌-◌, ◌<◌}
use Rattle.date.specs.Civil.{fields_at, pick_n}
use Rattle.date.specs.Laws.Months.{small}
use Rattle.date.specs.Laws.Years.{in_year, years_few, years_low}
use Rattle.date.proofs.civil.fields_at.Goals as goal

pub overflow_add-y : goal.overflow_add-y
overflow_add-y c = omega (arith, years_few c.args.z)

pub overflow_cast-y : goal.overflow_cast-y
overflow_cast-y c = omega (arith, years_few c.args.z)

pub days_gone-requires : goal.days_gone-requires
days_gone-requires c = omega (arith, years_few c.args.z)

pub overflow_sub-j : goal.overflow_sub-j
overflow_sub-j c = rw (c.days_gone.ensures, c.years_gone-p.ensures) (years_low c.args.z)

pub place_in-at-requires : goal.place_in-at-requires
place_in-at-requires c =
    let asked : c.args.z - c.days_gone.result < pick_n c.is_leap.result 366 365 = rw (c.is_leap.ensures, c.days_gone.ensures, c.years_gone-p.ensures) (in_year c.args.z) in
    asked

pub overflow_add-result : goal.overflow_add-result
overflow_add-result c =
    let asked : c.args.z - c.days_gone.result < pick_n c.is_leap.result 366 365 = rw (c.is_leap.ensures, c.days_gone.ensures, c.years_gone-p.ensures) (in_year c.args.z) in
    omega (arith, (small _ _ _ c.place_in-at.ensures asked).0)

pub overflow_add-result-2 : goal.overflow_add-result-2
overflow_add-result-2 c =
    let asked : c.args.z - c.days_gone.result < pick_n c.is_leap.result 366 365 = rw (c.is_leap.ensures, c.days_gone.ensures, c.years_gone-p.ensures) (in_year c.args.z) in
    omega (arith, (small _ _ _ c.place_in-at.ensures asked).1)

pub returns : goal.returns
unfolding fields_at
returns c = cc
