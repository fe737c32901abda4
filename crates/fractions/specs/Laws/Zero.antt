-- Where the numerator of 30E/360 is 0: on equal dates, and from a 30th to its 31st.
-- Assumes nothing.
use Rattle.std.specs.Prelude.{ℕ, ◌+◌, ◌*◌, ◌≤◌, ◌<◌, min, ◌≡◌, refl, Bool, true, false, ltb}
use Rattle.std.proofs.Common.{sym, ◌∙◌, arith, ltb-true, ltb-false}
use Rattle.date.specs.Civil.{fields_of, day_number}
use Rattle.date.specs.Laws.Round.{fields_valid, day_of_fields}
use Rattle.date.specs.Laws.Months.{length_le}
use Rattle.date.specs.Laws.Order.{by_day, later_date_is_larger}
use Rattle.fractions.specs.declared.Basis.TheVariants.{Thirty360}
use Rattle.fractions.specs.Fractions.{place, count}
use Rattle.fractions.specs.Promise.{NoDays, same_date, to_the_31st}
use Rattle.fractions.specs.Laws.Order.{place_le}

-- one place has one year, one month, and one day but for the 31st
module _ (y m d y' m' d' : ℕ) (a : 1 ≤ m) (b : m ≤ 12) (c : 1 ≤ d) (a' : 1 ≤ m') (b' : m' ≤ 12) (c' : 1 ≤ d') (h : 360 * y + 30 * m + min d 30 ≡ 360 * y' + 30 * m' + min d' 30) where
  year_is : y ≡ y'
  year_is =
      let p : ¬ (y < y') = λ l. omega arith in
      let q : ¬ (y' < y) = λ l. omega arith in
      omega arith

  month_is : m ≡ m'
  month_is =
      let e = year_is in
      let p : ¬ (m < m') = λ l. omega arith in
      let q : ¬ (m' < m) = λ l. omega arith in
      omega arith

  day_is : min d 30 ≡ min d' 30
  day_is = omega (arith, year_is, month_is)

module _ (a b : ℕ) (o : 1 ≤ a) (h : a ≤ b) (ey : (fields_of a).year ≡ (fields_of b).year) (em : (fields_of a).month ≡ (fields_of b).month) (ed : min (fields_of a).day 30 ≡ min (fields_of b).day 30) where
  not_back : ¬ ((fields_of b).day < (fields_of a).day)
  not_back l =
      let x = later_date_is_larger _ _ _ _ _ _ (fields_valid b) (fields_valid a) (by_day (sym ey) (sym em) l) in
      omega (arith, day_of_fields a o, day_of_fields b (omega arith))

  same_numbers : (fields_of a).day ≡ (fields_of b).day → a ≡ b
  same_numbers e =
      let q : day_number (fields_of a).year (fields_of a).month (fields_of a).day ≡ day_number (fields_of b).year (fields_of b).month (fields_of b).day = cc in
      sym (day_of_fields a o) ∙ q ∙ day_of_fields b (omega arith)

  nothing_go : (t : Bool) → ltb (fields_of a).day (fields_of b).day ≡ t → NoDays a b
  nothing_go true e =
      let l = ltb-true (fields_of a).day (fields_of b).day e in
      let v = fields_valid b in
      let k = length_le (fields_of b).year (fields_of b).month in
      to_the_31st ey em (omega (arith, v.last)) (omega (arith, v.last))
  nothing_go false e =
      let l = ltb-false (fields_of a).day (fields_of b).day e in
      let n = not_back in
      same_date (same_numbers (omega arith))

pub zero_only : (a b : ℕ) → 1 ≤ a → a ≤ b → count Thirty360 a b ≡ 0 → NoDays a b
unfolding count place
zero_only a b o h e =
    let v = fields_valid a in
    let w = fields_valid b in
    let q : place a ≡ place b = omega (arith, place_le a b o h) in
    let y = year_is (fields_of a).year (fields_of a).month (fields_of a).day (fields_of b).year (fields_of b).month (fields_of b).day v.month v.twelve v.first w.month w.twelve w.first q in
    let m = month_is (fields_of a).year (fields_of a).month (fields_of a).day (fields_of b).year (fields_of b).month (fields_of b).day v.month v.twelve v.first w.month w.twelve w.first q in
    let d = day_is (fields_of a).year (fields_of a).month (fields_of a).day (fields_of b).year (fields_of b).month (fields_of b).day v.month v.twelve v.first w.month w.twelve w.first q in
    nothing_go a b o h y m d (ltb (fields_of a).day (fields_of b).day) refl
