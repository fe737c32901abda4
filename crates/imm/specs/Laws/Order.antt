-- Laws of dates: a day of a later month is a later day, so months and years follow the order of the days.
-- Assumes nothing.
use Rattle.std.specs.Prelude.{ℕ, zero, suc, ◌+◌, ◌-◌, ◌*◌, ◌≤◌, ◌<◌, ◌≡◌, refl, Bool, true, false, List, [], ◌∷◌, ltb, get_or, length}
use Rattle.std.proofs.Common.{arith, ltb-true, ltb-false}
use Rattle.refusal.specs.Answer.{Answer, given, refused, then}
use Rattle.date.specs.Civil.{leap, row_of, gone, sum_to, day_number, month_length, fields_of, fields_at, guess, years_gone, place_of}
use Rattle.date.specs.Date.{in_book, month_index}
use Rattle.date.specs.Laws.Years.{gone_le}
use Rattle.date.specs.Laws.Months.{row_length}
use Rattle.date.specs.Laws.Round.{Valid, day_in_year, day_of_fields, fields_valid}
use Rattle.date.specs.Laws.Made.{year_end}
use Rattle.date.specs.Laws.Moves.{book_le, book_from}

-- an answer that two steps give was given by both
pub then_gives : {A B : Type 0} (x : Answer A) (f : A → Answer B) (b : B) → then x f ≡ given b → (a : A) × ((x ≡ given a) × (f a ≡ given b))
unfolding then
then_gives (given a) f b h = (a, (refl, h))
then_gives (refused n) f b h = let z : ◌≡◌ {A = ℕ} 0 1 = cc in let bad : ⊥ = omega arith in absurd bad

-- ---- rows of month lengths
sum_later : (xs : List ℕ) (k j : ℕ) → k < j → j ≤ length xs → sum_to xs k + get_or xs k 0 ≤ sum_to xs j
unfolding sum_to
sum_later [] k j h i = omega arith
sum_later (l ∷ ls) k zero h i = omega arith
sum_later (l ∷ ls) zero (suc j) h i = omega arith
sum_later (l ∷ ls) (suc k) (suc j) h i = omega (arith, sum_later ls k j (omega arith) (omega arith))

-- ---- days of a later month
later_year : (y m d y' m' d' : ℕ) → Valid y m d → Valid y' m' d' → y < y' → day_number y m d < day_number y' m' d'
unfolding day_number month_length
later_year y m d y' m' d' v v' h =
    let s = day_in_year y (m - 1) (d - 1) (omega arith) (omega arith) in
    omega (arith, year_end y (omega arith), gone_le y (y' - 1) (omega arith))

later_in_year : (y m d m' d' : ℕ) → Valid y m d → Valid y m' d' → m < m' → day_number y m d < day_number y m' d'
unfolding day_number month_length
later_in_year y m d m' d' v v' h =
    let s = sum_later (row_of (leap y)) (m - 1) (m' - 1) (omega arith) (rw row_length (omega arith)) in
    omega arith

later_go : (t : Bool) (y m d y' m' d' : ℕ) → ltb y y' ≡ t → Valid y m d → Valid y' m' d' → 12 * y + m < 12 * y' + m' → day_number y m d < day_number y' m' d'
later_go true y m d y' m' d' e v v' h = later_year y m d y' m' d' v v' (ltb-true y y' e)
later_go false y m d y' m' d' e v v' h =
    let q : y ≡ y' = omega (arith, ltb-false y y' e) in
    let w : Valid y m' d' = rw q v' in
    rw (← q) (later_in_year y m d m' d' v w (omega arith))

pub later_month : (y m d y' m' d' : ℕ) → Valid y m d → Valid y' m' d' → 12 * y + m < 12 * y' + m' → day_number y m d < day_number y' m' d'
later_month y m d y' m' d' v v' h = later_go (ltb y y') y m d y' m' d' refl v v' h

-- ---- the same of day numbers
module _ (a b : ℕ) (p : 1 ≤ a) where
  month_order : 1 ≤ b → month_index b < month_index a → b < a
  unfolding month_index
  month_order q h =
      let v = fields_valid a in
      let w = fields_valid b in
      let l = later_month (fields_of b).year (fields_of b).month (fields_of b).day (fields_of a).year (fields_of a).month (fields_of a).day w v (omega arith) in
      rw (day_of_fields a p, day_of_fields b q) at l

  pub month_le : a ≤ b → month_index a ≤ month_index b
  month_le h =
      let n : ¬ (month_index b < month_index a) = λ l. omega (arith, month_order (omega arith) l) in
      omega arith

  pub year_le : a ≤ b → (fields_of a).year ≤ (fields_of b).year
  unfolding month_index
  year_le h = omega (arith, month_le h, (fields_valid a).month, (fields_valid b).twelve, (fields_valid b).month)

-- ---- the years of the book
first_year_lem : (fields_of 693961).year ≡ 1901
unfolding fields_at guess years_gone gone place_of
first_year_lem = refl

last_year : (fields_of 803168).year ≡ 2199
unfolding fields_at guess years_gone gone place_of
last_year = refl

pub book_years : (n : ℕ) → in_book n ≡ true → (1901 ≤ (fields_of n).year) × ((fields_of n).year ≤ 2199)
book_years n h =
    let a = book_from n h in
    let b = book_le n h in
    (omega (arith, first_year_lem, year_le 693961 n (omega arith) a), omega (arith, last_year, year_le n 803168 (omega arith) b))
