-- Request L9: the index, 601 running counts of open days, and what it says of a day. Defined on any list of counts, so that every answer is settled;
-- on the calendar's own index the answers are the plain counts (Laws).
-- Assumes nothing.
use Rattle.std.specs.Prelude.{ℕ, zero, suc, ◌+◌, ◌-◌, ◌/◌, min, Bool, true, false, List, [], ◌∷◌, ◌++◌, map, ltb, get_or, take, drop}
use Rattle.refusal.specs.Answer.{Answer}
use Rattle.date.specs.Civil.{pick_n, day_number, fields_of}
use Rattle.date.specs.Date.{SPAN_FIRST}
use Rattle.opendays.specs.Count.{open_between, nth_open}

-- a place for each year from 1800 to 2400
abbrev pub PLACES : ℕ
PLACES = 601

-- the days of 600 years
abbrev pub MOST : ℕ
MOST = 219145

-- 1 January of the year at a place, and the place of the year that a day lies in
unfoldable pub year_start : ℕ → ℕ
year_start i = day_number (1800 + i) 1 1

unfoldable pub place_of : ℕ → ℕ
place_of day = (fields_of day).year - 1800

-- ---- the index of a calendar: at each place the open days from 1800-01-01 up to, and without, 1 January of its year
unfoldable pub count_at : ℕ → List ℕ → ℕ → ℕ
count_at mask closed i = open_between mask closed SPAN_FIRST (year_start i)

unfoldable pub counts_from : (ℕ → ℕ) → ℕ → ℕ → List ℕ
counts_from count i zero = []
counts_from count i (suc n) = count i ∷ counts_from count (suc i) n

unfoldable pub index_of : ℕ → List ℕ → List ℕ
index_of mask closed = counts_from (count_at mask closed) 0 PLACES

-- ---- what an index says: a count is read as at most the days of 600 years
unfoldable pub count_in : List ℕ → ℕ → ℕ
count_in index i = min (get_or index i 0) MOST

-- the open days from 1800 on before a day: the count of its year, and those of the year before the day
unfoldable pub rank_by : ℕ → List ℕ → List ℕ → ℕ → ℕ
rank_by mask closed index day =
    count_in index (place_of day) + open_between mask closed (year_start (place_of day)) day

-- the open days from one day up to, and without, another: a fall is 0
unfoldable pub count_by : ℕ → List ℕ → List ℕ → ℕ → ℕ → ℕ
count_by mask closed index first last =
    pick_n (ltb first last) (rank_by mask closed index last - rank_by mask closed index first) 0

-- by halving from `lo` to `hi`, a place whose count is below a rank; of rising counts the last such
unfoldable pub halved : Bool → ℕ → ℕ → ℕ → (ℕ → ℕ → ℕ) → ℕ
halved true lo mid hi on = on mid hi
halved false lo mid hi on = on lo mid

unfoldable pub unless_near : Bool → ℕ → ℕ → ℕ
unless_near true lo r = r
unless_near false lo r = lo

unfoldable pub year_before : List ℕ → ℕ → ℕ → ℕ → ℕ → ℕ
year_before index rank zero lo hi = lo
year_before index rank (suc left) lo hi =
    let r = halved (ltb (count_in index (lo + (hi - lo) / 2)) rank) lo (lo + (hi - lo) / 2) hi (year_before index rank left) in
    unless_near (ltb (lo + 1) hi) lo r

-- the n-th open day after a day: counted on from the start of a year whose count is below its rank
unfoldable pub nth_at : ℕ → List ℕ → List ℕ → ℕ → ℕ → Answer ℕ
nth_at mask closed index rank i = nth_open mask closed (year_start i) (rank - count_in index i)

unfoldable pub nth_by : ℕ → List ℕ → List ℕ → ℕ → ℕ → Answer ℕ
nth_by mask closed index day n =
    let rank = rank_by mask closed index (day + 1) + n in
    nth_at mask closed index rank (year_before index rank 600 (place_of (day + 1)) 600)

-- ---- one closed date more or less: the counts of later years change by one, and stop at 0 and at the most
unfoldable pub stepped : Bool → ℕ → ℕ
stepped true count = pick_n (ltb count MOST) (count + 1) count
stepped false count = count - 1

-- the counts from a place on
unfoldable pub onwards : Bool → ℕ → List ℕ → List ℕ
onwards up place index = take place index ++ map (stepped up) (drop place index)
