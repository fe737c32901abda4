-- Later dates have larger numbers, and a later month is a later day.
-- Assumes nothing.
use Rattle.std.specs.Prelude.{ℕ, zero, suc, ◌+◌, ◌-◌, ◌*◌, ◌/◌, ◌%◌, ◌≤◌, ◌<◌, min, ◌≡◌, refl, Bool, true, false, ltb, get_or}
use Rattle.std.proofs.Common.{ap, ◌∙◌, sym, arith, add-sub_cancel, ltb-true, ltb-false}
use Rattle.refusal.specs.Answer.{given}
use Rattle.date.specs.Civil.{gone, sum_to, row_of, leap, pick_n, day_number, month_length, fields_of}
use Rattle.date.specs.Date.{in_month, month_index, shift_months, step}
use Rattle.date.specs.Laws.Months.{sum_more, sum_none, sum_eleven}
use Rattle.date.specs.Laws.Round.{Valid, fields_of_day}
use Rattle.date.specs.Laws.Made.{made, year_end}

-- the days before month t, counted as 12 * year + month - 1
start : ℕ → ℕ
start t = gone (t / 12 - 1) + sum_to (row_of (leap (t / 12))) (t % 12)

whole : (l : Bool) → sum_to (row_of l) 11 + get_or (row_of l) 11 0 ≡ pick_n l 366 365
whole true = omega (arith, sum_eleven true)
whole false = omega (arith, sum_eleven false)

next_go : (t : ℕ) (b : Bool) → ltb (t % 12) 11 ≡ b → 12 ≤ t → start (t + 1) ≡ start t + get_or (row_of (leap (t / 12))) (t % 12) 0
unfolding start
next_go t true e h =
    let i = ltb-true (t % 12) 11 e in
    let q : (t + 1) / 12 ≡ t / 12 = omega arith in
    let r : (t + 1) % 12 ≡ t % 12 + 1 = omega arith in
    rw (q, r) (omega (arith, sum_more (leap (t / 12)) (t % 12) (omega arith)))
next_go t false e h =
    let i = ltb-false (t % 12) 11 e in
    let q : (t + 1) / 12 ≡ t / 12 + 1 = omega arith in
    let r : (t + 1) % 12 ≡ 0 = omega arith in
    let s : t % 12 ≡ 11 = omega arith in
    rw (q, r, s, add-sub_cancel) (omega (arith, sum_none (leap (t / 12 + 1)), whole (leap (t / 12)), year_end (t / 12) (omega arith)))

next : (t : ℕ) → 12 ≤ t → start (t + 1) ≡ start t + get_or (row_of (leap (t / 12))) (t % 12) 0
next t h = next_go t (ltb (t % 12) 11) refl h

grow : (k t : ℕ) → 12 ≤ t → start t ≤ start (t + k)
grow zero t h = let e : t + 0 ≡ t = omega arith in rw e (omega arith)
grow (suc k) t h = let e : t + suc k ≡ t + k + 1 = omega arith in rw e (omega (arith, grow k t h, next (t + k) (omega arith)))

earlier : (t t' : ℕ) → 12 ≤ t → t < t' → start (t + 1) ≤ start t'
earlier t t' far h =
    let q : t + 1 + (t' - (t + 1)) ≡ t' = omega arith in
    rw q at (grow (t' - (t + 1)) (t + 1) (omega arith))

-- the day number of a day in month t
number : (t d : ℕ) → day_number (t / 12) (t % 12 + 1) d ≡ start t + d
unfolding day_number start
number t d = simp add-sub_cancel

long : (t : ℕ) → month_length (t / 12) (t % 12 + 1) ≡ get_or (row_of (leap (t / 12))) (t % 12) 0
unfolding month_length
long t = ap (λ (k : ℕ). get_or (row_of (leap (t / 12))) k 0) (add-sub_cancel (t % 12) 1)

-- a day of month t lies after those before the month, and before the next month
in_month_lem : (t d n : ℕ) → in_month t d ≡ given n → (start t < n) × (n ≤ start (t + 1)) × (12 ≤ t)
unfolding in_month
in_month_lem t d n h =
    let m = made (t / 12) (t % 12 + 1) _ n h in
    let v = m.valid in
    let e = m.number ∙ number t _ in
    let far : 12 ≤ t = omega (arith, m.from_1800) in
    (omega (arith, v.first), omega (arith, v.last, long t, next t far), far)

-- a later month is a later day
pub later_month_is_later_day : (t t' d d' n n' : ℕ) → t < t' → in_month t d ≡ given n → in_month t' d' ≡ given n' → n < n'
later_month_is_later_day t t' d d' n n' h p p' =
    let i = in_month_lem t d n p in
    let i' = in_month_lem t' d' n' p' in
    omega (arith, earlier t t' i.2 h)

-- ---- two dates that exist
-- the first date comes before the second: by year, then month, then day
pub data Before (y m d y' m' d' : ℕ) : Type 0 where
  by_year : y < y' → Before y m d y' m' d'
  by_month : y ≡ y' → m < m' → Before y m d y' m' d'
  by_day : y ≡ y' → m ≡ m' → d < d' → Before y m d y' m' d'

index : (y m : ℕ) → 1 ≤ m → m ≤ 12 → ((12 * y + m - 1) / 12 ≡ y) × ((12 * y + m - 1) % 12 + 1 ≡ m)
index y m a b = (omega arith, omega arith)

-- the day number of a date by the count of its month
number_at : (y m d : ℕ) → Valid y m d → (day_number y m d ≡ start (12 * y + m - 1) + d) × (month_length y m ≡ get_or (row_of (leap ((12 * y + m - 1) / 12))) ((12 * y + m - 1) % 12) 0)
number_at y m d v =
    let i = index y m v.month v.twelve in
    let p = number (12 * y + m - 1) d in
    let q = long (12 * y + m - 1) in
    (rw (i.0, i.1) at p, ap (λ (k : ℕ). month_length k m) (sym i.0) ∙ ap (λ (k : ℕ). month_length ((12 * y + m - 1) / 12) k) (sym i.1) ∙ q)

by_index : (y m d y' m' d' : ℕ) → Valid y m d → Valid y' m' d' → 12 * y + m - 1 < 12 * y' + m' - 1 → day_number y m d < day_number y' m' d'
by_index y m d y' m' d' v v' h =
    let far : 12 ≤ 12 * y + m - 1 = omega (arith, v.year, v.month) in
    let a = number_at y m d v in
    let b = number_at y' m' d' v' in
    omega (arith, v.last, v'.first, a.0, a.1, b.0, next (12 * y + m - 1) far, earlier (12 * y + m - 1) (12 * y' + m' - 1) far h)

later_in_month : (y m d d' : ℕ) → d < d' → day_number y m d < day_number y m d'
unfolding day_number
later_in_month y m d d' h = omega arith

-- a later date has a larger number
pub later_date_is_larger : (y m d y' m' d' : ℕ) → Valid y m d → Valid y' m' d' → Before y m d y' m' d' → day_number y m d < day_number y' m' d'
later_date_is_larger y m d y' m' d' v v' (by_year h) = by_index y m d y' m' d' v v' (omega (arith, v.twelve, v'.month, v.month))
later_date_is_larger y m d y' m' d' v v' (by_month e h) = by_index y m d y' m' d' v v' (omega (arith, v.month))
later_date_is_larger y m d y' m' d' v v' (by_day e g h) = rw (e, g) (later_in_month y' m' d d' h)

-- ---- adding months
-- the day of the month is kept, or is the last one of a shorter month
pub month_day_kept : (t d n : ℕ) → in_month t d ≡ given n → fields_of n ≡ record { year = t / 12; month = t % 12 + 1; day = min d (month_length (t / 12) (t % 12 + 1)) }
unfolding in_month
month_day_kept t d n h =
    let m = made (t / 12) (t % 12 + 1) _ n h in
    ap fields_of m.number ∙ fields_of_day _ _ _ m.valid

pub months_keep_the_day : (n : ℕ) (back : Bool) (k r : ℕ) → shift_months n back k ≡ given r → (let t : ℕ = step back (month_index n) k in fields_of r ≡ record { year = t / 12; month = t % 12 + 1; day = min (fields_of n).day (month_length (t / 12) (t % 12 + 1)) })
unfolding shift_months
months_keep_the_day n back k r h = month_day_kept _ _ r h

-- more months on is later, more months back is earlier
pub more_months_later : (n k k' r r' : ℕ) → k < k' → shift_months n false k ≡ given r → shift_months n false k' ≡ given r' → r < r'
unfolding shift_months step
more_months_later n k k' r r' h p p' = later_month_is_later_day _ _ _ _ r r' (omega arith) p p'

pub more_months_earlier : (n k k' r r' : ℕ) → k < k' → shift_months n true k ≡ given r → shift_months n true k' ≡ given r' → r' < r
unfolding shift_months step
more_months_earlier n k k' r r' h p p' =
    let far = (in_month_lem _ _ r' p').2 in
    later_month_is_later_day _ _ _ _ r' r (omega arith) p' p
