-- Two days from day 1 on lie in one month exactly if they are fewer days apart than the later one's day of the month says.
-- Assumes nothing.
use Prim.Native.Nat.{ℕ, ◌+◌, ◌-◌, ◌*◌, ◌≤◌, ◌<◌}
use mathlib.Core.Path.{◌≡◌, refl, sym, ap, ◌∙◌}
use mathlib.Core.Bool.{Bool, true, false}
use mathlib.Core.Logic.{⊎_elim}
use native.Mathlib.Nat.{eq-or-lt_of_le}
use native.Mathlib.Omega.{arith}
use lib.Dec.{eqb, ltb}
use borrow.Author.Tests.{ltb-true, ltb-false, eqb-true, eqb-false, eq-eqb, ne_eqb}
use Rattle.date.specs.declared.Fields.{Fields}
use Rattle.date.specs.Civil.{day_number, fields_of}
use Rattle.date.specs.Date.{month_index}
use Rattle.date.specs.Laws.Round.{Valid, fields_of_day, day_of_fields, fields_valid}
use Rattle.calendar.specs.Adjust.{same_month}
use Rattle.calendar.specs.Inner.Near.{OneMonth}

-- two days of a month are as far apart as their numbers in it
apart : (y m d e : ℕ) → day_number y m d + e ≡ day_number y m e + d
unfolding day_number
apart y m d e = omega arith

one_index : (y m y' m' : ℕ) → 1 ≤ m → m ≤ 12 → 1 ≤ m' → m' ≤ 12 → 12 * y + m - 1 ≡ 12 * y' + m' - 1 → (y ≡ y') × (m ≡ m')
one_index y m y' m' a b a' b' e = (omega arith, omega arith)

module _ (a b : ℕ) (one : 1 ≤ a) (later : a < b) where
  same_if_near : b - a < (fields_of b).day → month_index a ≡ month_index b
  unfolding month_index
  same_if_near h =
      let y = (fields_of b).year in
      let m = (fields_of b).month in
      let d = (fields_of b).day in
      let v = fields_valid b in
      let w : Valid y m (d - (b - a)) = record { year = v.year; month = v.month; twelve = v.twelve; first = omega arith; last = omega (arith, v.last) } in
      let e : day_number y m (d - (b - a)) ≡ a = omega (arith, apart y m (d - (b - a)) d, day_of_fields b (omega arith)) in
      ap (λ (x : Fields). 12 * x.year + x.month - 1) (ap fields_of (sym e) ∙ fields_of_day y m (d - (b - a)) w)

  near_if_same : month_index a ≡ month_index b → b - a < (fields_of b).day
  unfolding month_index
  near_if_same h =
      let v = fields_valid a in
      let w = fields_valid b in
      let i = one_index (fields_of a).year (fields_of a).month (fields_of b).year (fields_of b).month v.month v.twelve w.month w.twelve h in
      let e = day_of_fields a one in
      let f : day_number (fields_of b).year (fields_of b).month (fields_of a).day ≡ a = rw (i.0, i.1) at e in
      omega (arith, v.first, apart (fields_of b).year (fields_of b).month (fields_of a).day (fields_of b).day, day_of_fields b (omega arith))

  decide : (t : Bool) → ltb (b - a) (fields_of b).day ≡ t → t ≡ same_month a b
  unfolding same_month
  decide true e = sym (eq-eqb _ _ (same_if_near (ltb-true (b - a) (fields_of b).day e)))
  decide false e = sym (ne_eqb _ _ (λ q. omega (arith, near_if_same q, ltb-false (b - a) (fields_of b).day e)))

-- what the fields of the later day tell
pub begun : (f : Fields) (a b : ℕ) → f ≡ fields_of b → a < b → 1 ≤ a → ltb (b - a) f.day ≡ same_month a b
begun f a b e l one = ap (λ (x : Fields). ltb (b - a) x.day) e ∙ decide a b one l (ltb (b - a) (fields_of b).day) refl

-- ---- a month's first day, told by the fields of a day of the month
day_within : (b : ℕ) → 1 ≤ b → (fields_of b).day ≤ b
unfolding day_number
day_within b one = omega (arith, day_of_fields b one)

pub start_fits : (f : Fields) (b : ℕ) → f ≡ fields_of b → 1 ≤ f.day
start_fits f b e = rw e (fields_valid b).first

pub no_start : (f : Fields) (b r : ℕ) → f ≡ fields_of b → b < f.day → 1 ≤ b → r ≡ b + 1 - (fields_of b).day
no_start f b r e h one =
    let g : b < (fields_of b).day = rw e at h in
    let bad : ⊥ = omega (arith, day_within b one) in
    absurd bad

pub start_is : (f : Fields) (b : ℕ) → f ≡ fields_of b → f.day ≤ b → b - f.day + 1 ≡ b + 1 - (fields_of b).day
start_is f b e h = let d : f.day ≡ (fields_of b).day = ap (λ (x : Fields). x.day) e in omega (arith, start_fits f b e)

module _ (b s : ℕ) (one : 1 ≤ b) (start : s ≡ b + 1 - (fields_of b).day) where
  in_month_lem : (a : ℕ) → s ≤ a → a ≤ b → month_index a ≡ month_index b
  in_month_lem a l h =
      ⊎_elim
      (λ (q : a ≡ b). ap month_index q)
      (λ (q : a < b). same_if_near a b (omega (arith, day_within b one)) q (omega (arith, day_within b one)))
      (eq-or-lt_of_le h)

  pub start_known : OneMonth s b
  unfolding same_month
  start_known = record { alike = λ x y l m h. eq-eqb _ _ (in_month_lem x l (omega arith) ∙ sym (in_month_lem y (omega arith) h)) }

  -- a day before it lies in another month
  pub start_left : (a : ℕ) → 1 ≤ a → a < s → same_month a b ≡ false
  unfolding same_month
  start_left a l h =
      ne_eqb _ _ (λ q. let near = near_if_same a b l (omega (arith, (fields_valid b).first)) q in let bad : ⊥ = omega (arith, day_within b one) in bad)

-- either day may be the later one
turned_go : (x y : ℕ) (t : Bool) → eqb x y ≡ t → t ≡ eqb y x
turned_go x y true e = sym (eq-eqb y x (sym (eqb-true x y e)))
turned_go x y false e = sym (ne_eqb y x (λ q. eqb-false x y e (sym q)))

pub turned : (a b : ℕ) → same_month a b ≡ same_month b a
unfolding same_month
turned a b = turned_go (month_index a) (month_index b) (eqb (month_index a) (month_index b)) refl

pub one_day : (a b : ℕ) → b ≤ a → a ≤ b → true ≡ same_month a b
unfolding same_month
one_day a b g h = let q : a ≡ b = omega arith in sym (eq-eqb _ _ (ap month_index q))
