-- A later day stands no earlier among days of months of 30, so that no numerator of 30E/360 is cut off at 0.
-- Assumes nothing.
use Rattle.std.specs.Prelude.{ℕ, ◌+◌, ◌-◌, ◌*◌, ◌≤◌, ◌<◌, min, ◌≡◌, refl, Bool, true, false, ltb}
use Rattle.std.proofs.Common.{arith, ltb-true, ltb-false}
use Rattle.date.specs.Civil.{fields_of, fields_at, guess, years_gone, gone, place_of, leap, row_of, month_in, day_in}
use Rattle.date.specs.Laws.Round.{fields_valid, day_of_fields}
use Rattle.date.specs.Laws.Order.{Before, by_year, by_month, by_day, later_date_is_larger}
use Rattle.date.specs.Date.{SPAN_FIRST, SPAN_LAST}
use Rattle.fractions.specs.declared.Basis.{Basis}
use Rattle.fractions.specs.declared.Basis.TheVariants.{Actual360, Actual365, Thirty360}
use Rattle.fractions.specs.Fractions.{place, count}
use Rattle.fractions.specs.Promise.{Inside}

abbrev at : ℕ → ℕ → ℕ → ℕ
at y m d = 360 * y + 30 * m + min d 30

module _ (y m d y' m' d' : ℕ) (a : 1 ≤ m) (b : 1 ≤ d) (e : m' ≤ 12) (h : at y m d < at y' m' d') where
  years : y' ≤ y → y ≡ y'
  years i = omega arith

  months : y ≡ y' → m' ≤ m → m ≡ m'
  months p i = omega arith

  before_go : (s t : Bool) → ltb y y' ≡ s → ltb m m' ≡ t → Before y m d y' m' d'
  before_go true t p q = by_year (ltb-true y y' p)
  before_go false true p q = by_month (years (ltb-false y y' p)) (ltb-true m m' q)
  before_go false false p q =
      let u = years (ltb-false y y' p) in
      let v = months u (ltb-false m m' q) in
      by_day u v (omega arith)

  before : Before y m d y' m' d'
  before = before_go (ltb y y') (ltb m m') refl refl

module _ (a b : ℕ) (p : 1 ≤ a) (q : 1 ≤ b) where
  earlier : place b < place a → b < a
  unfolding place
  earlier h =
      let v = fields_valid a in
      let w = fields_valid b in
      let l = later_date_is_larger _ _ _ _ _ _ w v (before (fields_of b).year (fields_of b).month (fields_of b).day (fields_of a).year (fields_of a).month (fields_of a).day w.month w.first v.twelve h) in
      rw (day_of_fields a p, day_of_fields b q) at l

-- the numerator of 30E/360 is never negative
pub place_le : (a b : ℕ) → 1 ≤ a → a ≤ b → place a ≤ place b
place_le a b p h =
    let n : ¬ (place b < place a) = λ l. omega (arith, earlier a b p (omega arith) l) in
    omega arith

-- ---- how large a numerator is
first_place : place SPAN_FIRST ≡ 648031
unfolding place fields_at guess years_gone gone place_of leap row_of month_in day_in
first_place = refl

last_place : place SPAN_LAST ≡ 864030
unfolding place fields_at guess years_gone gone place_of leap row_of month_in day_in
last_place = refl

pub thirty_small : (a b : ℕ) → SPAN_FIRST ≤ a → b ≤ SPAN_LAST → a ≤ b → place b - place a ≤ 215999
thirty_small a b p q h =
    omega (arith, first_place, last_place, place_le SPAN_FIRST a (omega arith) p, place_le b SPAN_LAST (omega arith) q)

pub count_small : (k : Basis) (a b : ℕ) → Inside a → Inside b → a ≤ b → count k a b ≤ 219144
unfolding count
count_small Actual360 a b p q h = omega (arith, p.from, q.to)
count_small Actual365 a b p q h = omega (arith, p.from, q.to)
count_small Thirty360 a b p q h = omega (arith, thirty_small a b p.from q.to h)
