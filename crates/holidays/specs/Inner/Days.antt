-- What the code's map of days stands for: a bit a day, from 1 January 1800 on.
-- Assumes nothing.
use Rattle.std.specs.Prelude.{ℕ, zero, suc, ◌+◌, ◌-◌, ◌/◌, ◌%◌, ◌^◌, ◌≤◌, ◌<◌, ◌≡◌, Bool, true, false, Option, None, Some, List, [], ◌∷◌, ◌++◌, eqb, length, drop, get_or}
use Rattle.holidays.specs.Words.{pick}
use Rattle.holidays.specs.Import.{add}

-- the first day, how many there are, and words of 32 bits for them
abbrev pub FIRST : ℕ
FIRST = 657072

abbrev pub DAYS : ℕ
DAYS = 219145

abbrev pub WORDS : ℕ
WORDS = 6849

unfoldable pub bit_of : ℕ → ℕ → Bool
bit_of m k = eqb (m / 2 ^ k % 2) 1

unfoldable pub bit_at : List ℕ → ℕ → Bool
bit_at map o = bit_of (get_or map (o / 32) 0) (o % 32)

-- the days of the bits that are set, ascending, n bits from o on
unfoldable pub days_from : ℕ → ℕ → List ℕ → List ℕ
days_from zero o map = []
days_from (suc n) o map = pick (bit_at map o) ((FIRST + o) ∷ days_from n (suc o) map) (days_from n (suc o) map)

unfoldable pub days_of : List ℕ → List ℕ
days_of map = days_from DAYS 0 map

-- days written over the start of a list
unfoldable pub over : List ℕ → List ℕ → List ℕ
over ds list = ds ++ drop (length ds) list

-- ---- whole words
pub record Fulls (map : List ℕ) (o past : ℕ) (r : Bool) : Type 0 where
  pub bits : r ≡ true → (j : ℕ) → j < 32 → bit_at map (o + j) ≡ true
  pub inside : r ≡ true → o + 32 ≤ past

pub record Empties (map : List ℕ) (o : ℕ) (r : Bool) : Type 0 where
  pub bits : r ≡ true → (j : ℕ) → j < 32 → bit_at map (o + j) ≡ false

-- ---- days added; none where they are more than the limit
unfoldable pub IsAdded : List ℕ → ℕ → ℕ → ℕ → Option ℕ → List ℕ → Type 0
IsAdded map first past limit (Some n) map' =
    (days_of map' ≡ add (past - first) (FIRST + first) (days_of map)) × ((n ≡ length (days_of map')) × ((n ≤ limit) × (length map' ≡ WORDS)))
IsAdded map first past limit None map' = limit < length (add (past - first) (FIRST + first) (days_of map))

pub record Adds (map : List ℕ) (first past limit : ℕ) (r : Option ℕ) (map' : List ℕ) : Type 0 where
  pub so : IsAdded map first past limit r map'
