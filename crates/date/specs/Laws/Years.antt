-- The years of the Gregorian calendar: how many days they have, and which of them a day lies in.
-- Assumes nothing.
use Rattle.std.specs.Prelude.{ℕ, ◌+◌, ◌-◌, ◌*◌, ◌/◌, ◌%◌, ◌≤◌, ◌<◌, ◌≡◌, refl, Bool, true, false, not, ◌&&◌, ◌||◌, eqb, leb, ltb}
use Rattle.std.proofs.Common.{ap, arith, le_of_lt, le_of_eq, le_antisymm, le-leb, leb-true, leb-false, ltb-true, ltb-false, eqb-true, eq-eqb}
use Rattle.std.proofs.lemmas.Bool.{false≢true, lt-leb, eqb-false}
use Rattle.date.specs.Civil.{pick_n, leap, gone, guess, years_gone}

pub gone_mono : (a b : ℕ) → a < b → gone a < gone b
unfolding gone
gone_mono a b h = omega arith

gone_le_at : (a b : ℕ) (t : Bool) → ltb a b ≡ t → a ≤ b → gone a ≤ gone b
gone_le_at a b true e h = le_of_lt (gone_mono a b (ltb-true a b e))
gone_le_at a b false e h = le_of_eq (ap gone (le_antisymm h (ltb-false a b e)))

pub gone_le : (a b : ℕ) → a ≤ b → gone a ≤ gone b
gone_le a b h = gone_le_at a b (ltb a b) refl h

guess_low : (z : ℕ) → gone (guess z) ≤ z
unfolding gone guess
guess_low z = omega arith

guess_high : (z : ℕ) → z < gone (guess z + 1 + 1)
unfolding gone guess
guess_high z = omega arith

-- a quotient grows by one at each multiple
up4 : (p : ℕ) (t : Bool) → eqb ((p + 1) % 4) 0 ≡ t → (p + 1) / 4 ≡ p / 4 + pick_n t 1 0
up4 p true x = omega (arith, eqb-true)
up4 p false x = omega (arith, eqb-false)

up100 : (p : ℕ) (t : Bool) → eqb ((p + 1) % 100) 0 ≡ t → (p + 1) / 100 ≡ p / 100 + pick_n t 1 0
up100 p true x = omega (arith, eqb-true)
up100 p false x = omega (arith, eqb-false)

up400 : (p : ℕ) (t : Bool) → eqb ((p + 1) % 400) 0 ≡ t → (p + 1) / 400 ≡ p / 400 + pick_n t 1 0
up400 p true x = omega (arith, eqb-true)
up400 p false x = omega (arith, eqb-false)

by_four : (y : ℕ) → y % 100 ≡ 0 → y % 4 ≡ 0
by_four y h = omega arith

by_hundred : (y : ℕ) → y % 400 ≡ 0 → y % 100 ≡ 0
by_hundred y h = omega arith

sums : (p q r s q' r' s' : ℕ) (a b c : Bool) → r ≤ q → q' ≡ q + pick_n a 1 0 → r' ≡ r + pick_n b 1 0 → s' ≡ s + pick_n c 1 0 → (b ≡ true → a ≡ true) → (c ≡ true → b ≡ true) → 365 * (p + 1) + q' + s' - r' ≡ (365 * p + q + s - r) + pick_n (a && (not b || c)) 366 365
sums p q r s q' r' s' true true true h x y z i j = omega arith
sums p q r s q' r' s' true true false h x y z i j = omega arith
sums p q r s q' r' s' true false true h x y z i j = absurd (false≢true (j refl))
sums p q r s q' r' s' true false false h x y z i j = omega arith
sums p q r s q' r' s' false true true h x y z i j = absurd (false≢true (i refl))
sums p q r s q' r' s' false true false h x y z i j = absurd (false≢true (i refl))
sums p q r s q' r' s' false false true h x y z i j = absurd (false≢true (j refl))
sums p q r s q' r' s' false false false h x y z i j = omega arith

less : (p : ℕ) → p / 100 ≤ p / 4
less p = omega arith

-- a year has 365 days, a leap year 366
pub gone_suc : (p : ℕ) → gone (p + 1) ≡ gone p + pick_n (leap (p + 1)) 366 365
unfolding gone leap
gone_suc p =
    sums p _ _ _ _ _ _ (eqb ((p + 1) % 4) 0) (eqb ((p + 1) % 100) 0) (eqb ((p + 1) % 400) 0) (less p) (up4 p _ refl) (up100 p _ refl) (up400 p _ refl)
    (λ t. eq-eqb _ _ (by_four (p + 1) (eqb-true _ _ t)))
    (λ t. eq-eqb _ _ (by_hundred (p + 1) (eqb-true _ _ t)))

years_go : (z : ℕ) (t : Bool) → leb (gone (guess z + 1)) z ≡ t → (gone (pick_n t (guess z + 1) (guess z)) ≤ z) × (z < gone (pick_n t (guess z + 1) (guess z) + 1))
years_go z true e = (leb-true _ _ e, guess_high z)
years_go z false e = (guess_low z, leb-false _ _ e)

-- the years gone by day z: their days are at most z, and those of one more are over z
pub years_low : (z : ℕ) → gone (years_gone z) ≤ z
unfolding years_gone
years_low z = (years_go z (leb (gone (guess z + 1)) z) refl).0

pub years_high : (z : ℕ) → z < gone (years_gone z + 1)
unfolding years_gone
years_high z = (years_go z (leb (gone (guess z + 1)) z) refl).1

-- no other number of years has that
pub years_only : (z p : ℕ) → gone p ≤ z → z < gone (p + 1) → years_gone z ≡ p
years_only z p lo hi =
    let below : ¬ (years_gone z < p) = λ h. omega (arith, gone_le (years_gone z + 1) p (omega arith), years_high z) in
    let above : ¬ (p < years_gone z) = λ h. omega (arith, gone_le (p + 1) (years_gone z) (omega arith), years_low z) in
    omega arith

pub years_up : (z : ℕ) → gone (guess z + 1) ≤ z → years_gone z ≡ guess z + 1
unfolding years_gone
years_up z h = simp (le-leb (gone (guess z + 1)) z h)

pub years_stay : (z : ℕ) → z < gone (guess z + 1) → years_gone z ≡ guess z
unfolding years_gone
years_stay z h = simp (lt-leb (gone (guess z + 1)) z h)

many : (p : ℕ) → 365 * p ≤ gone p
unfolding gone
many p = omega arith

pub years_few : (z : ℕ) → 365 * years_gone z ≤ z
years_few z = omega (arith, many (years_gone z), years_low z)

in_year_go : (z p : ℕ) (l : Bool) → gone p ≤ z → z < gone (p + 1) → gone (p + 1) ≡ gone p + pick_n l 366 365 → z - gone p < pick_n l 366 365
in_year_go z p true a b e = omega arith
in_year_go z p false a b e = omega arith

-- what is left of z after its whole years is a day of the next year
pub in_year : (z : ℕ) → z - gone (years_gone z) < pick_n (leap (years_gone z + 1)) 366 365
in_year z = in_year_go z (years_gone z) (leap (years_gone z + 1)) (years_low z) (years_high z) (gone_suc (years_gone z))

pub gone_small : (p : ℕ) → p < 2400 → gone p < 876582
unfolding gone
gone_small p h = omega arith
