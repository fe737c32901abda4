-- Civil dates, ISO 8601, proleptic Gregorian. Day 1 is 1 January of year 1, a Monday.
-- Assumes nothing.
use Rattle.std.specs.Prelude.{ℕ, zero, suc, ◌+◌, ◌-◌, ◌*◌, ◌/◌, ◌%◌, Bool, true, false, not, ◌&&◌, ◌||◌, List, [], ◌∷◌, eqb, leb, ltb, get_or}
use Rattle.date.specs.declared.Fields.{Fields}
use Rattle.date.specs.declared.civil.Place.{Place}

abbrev pub pick_n : Bool → (a b : ℕ) → ℕ
pick_n true a b = a
pick_n false a b = b

-- every fourth year, but of the hundredth ones only every fourth
unfoldable pub leap : ℕ → Bool
leap y = eqb (y % 4) 0 && (not (eqb (y % 100) 0) || eqb (y % 400) 0)

-- the two rows of month lengths
unfoldable pub row_of : Bool → List ℕ
row_of false = 31 ∷ 28 ∷ 31 ∷ 30 ∷ 31 ∷ 30 ∷ 31 ∷ 31 ∷ 30 ∷ 31 ∷ 30 ∷ 31 ∷ []
row_of true = 31 ∷ 29 ∷ 31 ∷ 30 ∷ 31 ∷ 30 ∷ 31 ∷ 31 ∷ 30 ∷ 31 ∷ 30 ∷ 31 ∷ []

unfoldable pub month_length : ℕ → ℕ → ℕ
month_length y m = get_or (row_of (leap y)) (m - 1) 0

-- the days of the first p years
unfoldable pub gone : ℕ → ℕ
gone p = 365 * p + p / 4 + p / 400 - p / 100

-- the sum of the first m entries of a row
unfoldable pub sum_to : List ℕ → ℕ → ℕ
sum_to [] m = 0
sum_to (l ∷ ls) zero = 0
sum_to (l ∷ ls) (suc m) = l + sum_to ls m

-- the day number of a year, month and day
unfoldable pub day_number : (y m d : ℕ) → ℕ
day_number y m d = gone (y - 1) + sum_to (row_of (leap y)) (m - 1) + d

-- the whole years before day z, from 0: the mean year is 146097 / 400 days, and the quotient is at most one short
unfoldable pub guess : ℕ → ℕ
guess z = z * 400 / 146097

unfoldable pub years_gone : ℕ → ℕ
years_gone z = pick_n (leb (gone (guess z + 1)) z) (guess z + 1) (guess z)

-- month and day, from 0, of day j of a year, from 0
unfoldable pub month_in : List ℕ → ℕ → ℕ
month_in [] j = 0
month_in (l ∷ ls) j = pick_n (ltb j l) 0 (suc (month_in ls (j - l)))

unfoldable pub day_in : List ℕ → ℕ → ℕ
day_in [] j = j
day_in (l ∷ ls) j = pick_n (ltb j l) j (day_in ls (j - l))

unfoldable pub place_of : Bool → ℕ → Place
place_of l j = record { month = month_in (row_of l) j; day = day_in (row_of l) j }

abbrev pub year_at : ℕ → ℕ
year_at z = years_gone z + 1

abbrev pub place_at : ℕ → Place
place_at z = place_of (leap (year_at z)) (z - gone (years_gone z))

-- the year, month and day of day z, from 0, and of a day number
unfoldable pub fields_at : ℕ → Fields
fields_at z = record { year = year_at z; month = (place_at z).month + 1; day = (place_at z).day + 1 }

abbrev pub fields_of : ℕ → Fields
fields_of n = fields_at (n - 1)

-- 1 is Monday and 7 Sunday
unfoldable pub weekday_of : ℕ → ℕ
weekday_of n = (n + 6) % 7 + 1

-- how many days after day n the next one with weekday w is
unfoldable pub days_until : ℕ → ℕ → ℕ
days_until n w = (w + 7 - weekday_of n) % 7
