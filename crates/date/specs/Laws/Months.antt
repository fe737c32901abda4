-- The rows of month lengths: which month and day of it a day of the year is.
-- Assumes nothing.
use Rattle.std.specs.Prelude.{ℕ, zero, suc, ◌+◌, ◌-◌, ◌*◌, ◌/◌, ◌≤◌, ◌<◌, ◌≡◌, refl, Bool, true, false, ◌&&◌, List, [], ◌∷◌, eqb, leb, ltb, get_or, length}
use Rattle.std.proofs.Common.{ap, sym, arith, add-one, zero-add, lt-ltb, le-ltb, eqb-true, leb-true, ltb-true, ltb-false}
use mir.Val.{bool_byte}
use Rattle.refusal.specs.Laws.Answers.{both, all_below, below}
use Rattle.date.specs.Civil.{pick_n, leap, row_of, month_length, sum_to, month_in, day_in, place_of}
use Rattle.date.specs.declared.civil.Place.{Place}

pub sum_to_suc : (xs : List ℕ) (k : ℕ) → k < length xs → sum_to xs (suc k) ≡ sum_to xs k + get_or xs k 0
unfolding sum_to
sum_to_suc [] k h = omega arith
sum_to_suc (l ∷ []) zero h = omega arith
sum_to_suc (l ∷ (l' ∷ ls)) zero h = omega arith
sum_to_suc (l ∷ ls) (suc k) h = omega (arith, sum_to_suc ls k (omega arith))

back : (l s j : ℕ) → l + s + j - l ≡ s + j
back l s j = omega arith

-- day j of month m, both from 0, is where the row puts it
pub month_at : (xs : List ℕ) (m j : ℕ) → m < length xs → j < get_or xs m 0 → month_in xs (sum_to xs m + j) ≡ m
unfolding sum_to month_in
month_at [] m j h i = omega arith
month_at (l ∷ ls) zero j h i = simp (zero-add, lt-ltb j l i)
month_at (l ∷ ls) (suc m) j h i =
    rw (le-ltb (l + sum_to ls m + j) l (omega arith), back) (ap suc (month_at ls m j (omega arith) i))

pub day_at : (xs : List ℕ) (m j : ℕ) → m < length xs → j < get_or xs m 0 → day_in xs (sum_to xs m + j) ≡ j
unfolding sum_to day_in
day_at [] m j h i = omega arith
day_at (l ∷ ls) zero j h i = simp (zero-add, lt-ltb j l i)
day_at (l ∷ ls) (suc m) j h i =
    rw (le-ltb (l + sum_to ls m + j) l (omega arith), back) (day_at ls m j (omega arith) i)

-- a day of a row has a place in it
pub record InRow (xs : List ℕ) (j m d : ℕ) : Type 0 where
  pub month : m < length xs
  pub day : d < get_or xs m 0
  pub sum : sum_to xs m + d ≡ j

placed_go : (l : ℕ) (ls : List ℕ) (j : ℕ) (t : Bool) → ltb j l ≡ t → (l ≤ j → InRow ls (j - l) (month_in ls (j - l)) (day_in ls (j - l))) → InRow (l ∷ ls) j (pick_n t 0 (suc (month_in ls (j - l)))) (pick_n t j (day_in ls (j - l)))
unfolding sum_to
placed_go l ls j true e f = record { month = omega arith; day = ltb-true j l e; sum = omega arith }
placed_go l ls j false e f =
    let g = f (ltb-false j l e) in
    record { month = omega (arith, g.month); day = g.day; sum = omega (arith, g.sum, ltb-false j l e) }

pub placed : (xs : List ℕ) (j : ℕ) → j < sum_to xs (length xs) → InRow xs j (month_in xs j) (day_in xs j)
unfolding sum_to month_in day_in
placed [] j h = omega arith
placed (l ∷ ls) j h = placed_go l ls j (ltb j l) refl (λ g. placed ls (j - l) (omega arith))

-- ---- the two rows
all_le : ℕ → List ℕ → Bool
all_le b [] = true
all_le b (x ∷ xs) = leb x b && all_le b xs

all_le_lem : (b : ℕ) (xs : List ℕ) → all_le b xs ≡ true → (m : ℕ) → get_or xs m 0 ≤ b
unfolding all_le
all_le_lem b [] t m = omega arith
all_le_lem b (x ∷ xs) t zero = leb-true x b (both (leb x b) (all_le b xs) t).0
all_le_lem b (x ∷ xs) t (suc m) = all_le_lem b xs (both (leb x b) (all_le b xs) t).1 m

pub row_le : (l : Bool) (m : ℕ) → get_or (row_of l) m 0 ≤ 31
unfolding all_le row_of
row_le true m = all_le_lem 31 (row_of true) refl m
row_le false m = all_le_lem 31 (row_of false) refl m

past : (xs : List ℕ) (m : ℕ) → length xs ≤ m → get_or xs m 0 ≡ 0
past [] m h = refl
past (x ∷ xs) zero h = omega arith
past (x ∷ xs) (suc m) h = past xs m (omega arith)

pub row_past : (l : Bool) (m : ℕ) → 12 ≤ m → get_or (row_of l) m 0 ≡ 0
unfolding row_of
row_past true m h = past (row_of true) m h
row_past false m h = past (row_of false) m h

pub sum_none : (l : Bool) → sum_to (row_of l) 0 ≡ 0
unfolding sum_to row_of
sum_none true = refl
sum_none false = refl

-- one month more
pub sum_more : (l : Bool) (k : ℕ) → k < 12 → sum_to (row_of l) (k + 1) ≡ sum_to (row_of l) k + get_or (row_of l) k 0
unfolding row_of
sum_more true k h = rw add-one (sum_to_suc (row_of true) k h)
sum_more false k h = rw add-one (sum_to_suc (row_of false) k h)

-- eleven months, and the whole year
pub sum_eleven : (l : Bool) → (sum_to (row_of l) 11 ≡ pick_n l 335 334) × (get_or (row_of l) 11 0 ≡ 31)
unfolding sum_to row_of
sum_eleven true = (refl, refl)
sum_eleven false = (refl, refl)

pub row_length : (l : Bool) → length (row_of l) ≡ 12
unfolding row_of
row_length true = refl
row_length false = refl

pub place_at : (l : Bool) (m d j : ℕ) → m < 12 → d < get_or (row_of l) m 0 → sum_to (row_of l) m + d ≡ j → ◌≡◌ {A = Place} (record { month = m; day = d }) (place_of l j)
unfolding place_of
place_at l m d j h i e =
    let h' : m < length (row_of l) = rw row_length h in
    rw (← e) (λ k. record { month = sym (month_at (row_of l) m d h' i) k; day = sym (day_at (row_of l) m d h' i) k })

-- a day of a month of a row is a day of the row
pub sum_in : (xs : List ℕ) (m d : ℕ) → m < length xs → d < get_or xs m 0 → sum_to xs m + d < sum_to xs (length xs)
unfolding sum_to
sum_in [] m d h i = omega arith
sum_in (l ∷ ls) zero d h i = omega arith
sum_in (l ∷ ls) (suc m) d h i = omega (arith, sum_in ls m d (omega arith) i)

pub year_sum : (l : Bool) → sum_to (row_of l) (length (row_of l)) ≡ pick_n l 366 365
unfolding sum_to row_of
year_sum true = refl
year_sum false = refl

pub place_ok : (l : Bool) (j : ℕ) → j < pick_n l 366 365 → InRow (row_of l) j (place_of l j).month (place_of l j).day
unfolding place_of
place_ok l j h = placed (row_of l) j (rw (year_sum l) h)

pub place_small : (l : Bool) (j : ℕ) → j < pick_n l 366 365 → ((place_of l j).month < 12) × ((place_of l j).day < 31)
place_small l j h =
    let p = place_ok l j h in
    (rw (← row_length l) p.month, omega (arith, p.day, row_le l (place_of l j).month))

-- the place of a day whose month, and the days before that, are known
pub place_by : (l : Bool) (j m s : ℕ) → j < pick_n l 366 365 → m ≡ month_in (row_of l) j → s ≡ sum_to (row_of l) m → (m < 12) × (s ≤ j) × ◌≡◌ {A = Place} (record { month = m; day = j - s }) (place_of l j)
unfolding place_of
place_by l j m s h e f =
    let p = place_ok l j h in
    let a : m < 12 = rw e (place_small l j h).0 in
    let q : sum_to (row_of l) m + day_in (row_of l) j ≡ j = rw e p.sum in
    let i : day_in (row_of l) j < get_or (row_of l) m 0 = rw e p.day in
    (a, omega arith, place_at l m (j - s) j a (omega arith) (omega arith))

-- the same of a place that a call gave
pub small : (x : Place) (l : Bool) (j : ℕ) → x ≡ place_of l j → j < pick_n l 366 365 → (x.month < 12) × (x.day < 31)
small x l j e h = rw e (place_small l j h)

sum_le_at : (xs : List ℕ) → all_le 31 xs ≡ true → (k : ℕ) → sum_to xs k ≤ 31 * k
unfolding all_le sum_to
sum_le_at [] t k = omega arith
sum_le_at (x ∷ xs) t zero = omega arith
sum_le_at (x ∷ xs) t (suc k) =
    omega (arith, leb-true x 31 (both (leb x 31) (all_le 31 xs) t).0, sum_le_at xs (both (leb x 31) (all_le 31 xs) t).1 k)

pub sum_le : (l : Bool) (k : ℕ) → sum_to (row_of l) k ≤ 31 * k
unfolding all_le row_of
sum_le true k = sum_le_at (row_of true) refl k
sum_le false k = sum_le_at (row_of false) refl k

pub sum_small : (l : Bool) (k : ℕ) → k < 12 → sum_to (row_of l) k ≤ 341
sum_small l k h = omega (arith, sum_le l k)

-- ---- the days before a month: by the rule for months of 30 and 31 days, less what February falls short of 30
ruled : Bool → ℕ → ℕ
ruled l m = pick_n (ltb m 2) ((367 * m + 5) / 12) ((367 * m + 5) / 12 + bool_byte l - 2)

ruled_sum : (l : Bool) (m : ℕ) → m < 12 → ruled l m ≡ sum_to (row_of l) m
unfolding all_below ruled sum_to row_of
ruled_sum true m h = eqb-true _ _ (below 12 (λ k. eqb (ruled true k) (sum_to (row_of true) k)) refl m h)
ruled_sum false m h = eqb-true _ _ (below 12 (λ k. eqb (ruled false k) (sum_to (row_of false) k)) refl m h)

pub sum_early : (l : Bool) (m : ℕ) → m < 2 → (367 * m + 5) / 12 ≡ sum_to (row_of l) m
unfolding ruled
sum_early l m h = rw (lt-ltb m 2 h) at (ruled_sum l m (omega arith))

pub sum_late : (l : Bool) (m : ℕ) → 2 ≤ m → m < 12 → (367 * m + 5) / 12 + bool_byte l - 2 ≡ sum_to (row_of l) m
unfolding ruled
sum_late l m h i = rw (le-ltb m 2 h) at (ruled_sum l m i)

-- ---- the month of a day of the year: 32 goes into the day as often as there are months before it, or once less
near : (l : Bool) (g : ℕ) → g < 11 → 32 * g + 31 < sum_to (row_of l) (g + 2)
unfolding all_below sum_to row_of
near true g h = ltb-true _ _ (below 11 (λ k. ltb (32 * k + 31) (sum_to (row_of true) (k + 2))) refl g h)
near false g h = ltb-true _ _ (below 11 (λ k. ltb (32 * k + 31) (sum_to (row_of false) (k + 2))) refl g h)

month_by : (l : Bool) (j m : ℕ) → m < 12 → sum_to (row_of l) m ≤ j → j < sum_to (row_of l) (m + 1) → m ≡ month_in (row_of l) j
month_by l j m h a b =
    let e : sum_to (row_of l) m + (j - sum_to (row_of l) m) ≡ j = omega arith in
    let q = month_at (row_of l) m (j - sum_to (row_of l) m) (rw row_length h) (omega (arith, sum_more l m h)) in
    sym (rw e at q)

module _ (l : Bool) (j : ℕ) (h : j < pick_n l 366 365) where
  pub month_short : j / 32 < 11 → sum_to (row_of l) (j / 32 + 1) ≤ j → j / 32 + 1 ≡ month_in (row_of l) j
  month_short g i =
      let n = near l (j / 32) g in
      let e : j / 32 + 2 ≡ j / 32 + 1 + 1 = omega arith in
      month_by l j (j / 32 + 1) (omega arith) i (let n' = rw e at n in omega arith)

  pub month_whole : j / 32 < 11 → j < sum_to (row_of l) (j / 32 + 1) → j / 32 ≡ month_in (row_of l) j
  month_whole g i = month_by l j (j / 32) (omega arith) (omega (arith, sum_le l (j / 32))) i

year_ends : (l : Bool) → sum_to (row_of l) 12 ≡ pick_n l 366 365
unfolding sum_to row_of
year_ends true = refl
year_ends false = refl

year_days : (l : Bool) (j : ℕ) → j < pick_n l 366 365 → j < 366
year_days true j h = h
year_days false j h = omega arith

pub month_last : (l : Bool) (j : ℕ) → j < pick_n l 366 365 → 11 ≤ j / 32 → j / 32 ≡ month_in (row_of l) j
month_last l j h g =
    let q : j / 32 ≡ 11 = omega (arith, year_days l j h) in
    month_by l j (j / 32) (omega arith) (omega (arith, sum_le l (j / 32))) (rw q (rw (year_ends l) h))

-- a month has at least 28 days
all_ge : ℕ → List ℕ → Bool
all_ge b [] = true
all_ge b (x ∷ xs) = leb b x && all_ge b xs

all_ge_lem : (b : ℕ) (xs : List ℕ) → all_ge b xs ≡ true → (m : ℕ) → m < length xs → b ≤ get_or xs m 0
unfolding all_ge
all_ge_lem b [] t m h = omega arith
all_ge_lem b (x ∷ xs) t zero h = leb-true b x (both (leb b x) (all_ge b xs) t).0
all_ge_lem b (x ∷ xs) t (suc m) h = all_ge_lem b xs (both (leb b x) (all_ge b xs) t).1 m (omega arith)

row_ge : (l : Bool) (m : ℕ) → m < 12 → 28 ≤ get_or (row_of l) m 0
unfolding all_ge row_of
row_ge true m h = all_ge_lem 28 (row_of true) refl m h
row_ge false m h = all_ge_lem 28 (row_of false) refl m h

pub length_ge : (y m : ℕ) → m ≤ 12 → 28 ≤ month_length y m
unfolding month_length
length_ge y m h = row_ge (leap y) (m - 1) (omega arith)

pub length_le : (y m : ℕ) → month_length y m ≤ 31
unfolding month_length
length_le y m = row_le (leap y) (m - 1)
