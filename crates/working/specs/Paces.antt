-- The pace of a tenor: its days or its months. A tenor of over 1,200 units, which the checks refuse, counts as one of 1,200.
-- Assumes nothing.
use Rattle.std.specs.Prelude.{ℕ, ◌≤◌, min, ◌≡◌, refl, true, leb, nat_abs}
use Rattle.std.proofs.Common.{arith, leb-true}
use Rattle.period.specs.declared.Unit.{Unit}
use Rattle.period.specs.declared.Unit.TheVariants.{Days, Weeks, Months, Years}
use Rattle.period.specs.declared.Period.{Period}
use Rattle.calendar.specs.Calendar.{tenor_ok, longest}
use Rattle.steps.specs.declared.Pace.{Pace}
use Rattle.steps.specs.Rules.{pace_of, pace_by}

unfoldable pub pace : Period → Pace
pace tenor = pace_by (min (nat_abs tenor.length) 1200) tenor.unit

few_units : (n : ℕ) (u : Unit) → leb n (longest u) ≡ true → n ≤ 1200
unfolding longest
few_units n Days e = omega (arith, leb-true n 366 e)
few_units n Weeks e = omega (arith, leb-true n 520 e)
few_units n Months e = leb-true n 1200 e
few_units n Years e = omega (arith, leb-true n 100 e)

-- a tenor that passes the checks has the pace that the steps count with
pub pace_checked : (tenor : Period) → tenor_ok (nat_abs tenor.length) tenor.unit ≡ true → pace tenor ≡ pace_of tenor
unfolding pace pace_of tenor_ok
pace_checked tenor e =
    let few = few_units (nat_abs tenor.length) tenor.unit e in
    let s : min (nat_abs tenor.length) 1200 ≡ nat_abs tenor.length = omega arith in
    rw s refl
