-- The three answers by their meaning, of every basis, day and list. That the definitions have it, and that no other answer does, is
-- shown in Laws: `parts_are`, `one_answer` (Parts), `fraction_given` (Floats), `report_is`, `one_report`, `report_given` (Reports) and `zero_only` (Zero).
-- Assumes nothing.
use Rattle.std.specs.Prelude.{ℕ, suc, ◌+◌, ◌-◌, ◌^◌, ◌≤◌, ◌<◌, ◌≡◌, Bool, false, not, List, T, length, get_or, Float}
use Rattle.std.specs.Float.{nan, inf, fin, binary64}
use Rattle.std.specs.Float.Ieee.{round, fits, to_bits}
use Rattle.refusal.specs.Answer.{Answer, given, refused, BOOK, REVERSED}
use Rattle.date.specs.Civil.{fields_of}
use Rattle.date.specs.Date.{SPAN_FIRST, SPAN_LAST}
use Rattle.fractions.specs.declared.Basis.{Basis}
use Rattle.fractions.specs.declared.Basis.TheVariants.{Thirty360}
use Rattle.fractions.specs.declared.Parts.{Parts}
use Rattle.fractions.specs.declared.reports.Sums.{Sums}
use Rattle.fractions.specs.Fractions.{count, under, parts_between, parts_of}
use Rattle.fractions.specs.Reports.{sums_of}

-- from 1800-01-01 to 2399-12-31
pub record Inside (n : ℕ) : Type 0 where
  pub from : SPAN_FIRST ≤ n
  pub to : n ≤ SPAN_LAST

-- ---- the parts
pub data PartsAre (k : Basis) (a b : ℕ) : Answer Parts → Type 0 where
  outside : ¬ (Inside a × Inside b) → PartsAre k a b (refused BOOK)
  reversed : Inside a → Inside b → b < a → PartsAre k a b (refused REVERSED)
  counted : Inside a → Inside b → a ≤ b → PartsAre k a b (given (parts_between k a b))

-- the only periods without a day of 30E/360: equal dates, and from a 30th to the 31st of its month
pub data NoDays (a b : ℕ) : Type 0 where
  same_date : a ≡ b → NoDays a b
  to_the_31st : (fields_of a).year ≡ (fields_of b).year → (fields_of a).month ≡ (fields_of b).month → (fields_of a).day ≡ 30 → (fields_of b).day ≡ 31 → NoDays a b

-- ---- the fraction
-- finite, and its sign is plus, also at zero
abbrev pub from_zero : Float → Bool
from_zero nan = false
from_zero (inf s) = false
from_zero (fin s m e) = not s

-- a float that is given is the exact fraction of the two parts, rounded once to the nearest, ties to even
pub record FractionIs (k : Basis) (a b : ℕ) (x : Float) : Type 0 where
  pub parts : parts_of k a b ≡ given (parts_between k a b)
  pub nearest : x ≡ round binary64 false (count k a b) (under k)
  pub fit : T (fits binary64 x)
  pub not_below : T (from_zero x)
  pub bits : to_bits binary64 x < 2 ^ 63

-- ---- the report
abbrev pub AllInside : List ℕ → Type 0
AllInside ds = (i : ℕ) → i < length ds → Inside (get_or ds i 0)

abbrev pub InOrder : List ℕ → Type 0
InOrder ds = (i : ℕ) → suc i < length ds → get_or ds i 0 ≤ get_or ds (suc i) 0

pub data ReportIs (ds : List ℕ) : Answer Sums → Type 0 where
  some_outside : (i : ℕ) → i < length ds → ¬ Inside (get_or ds i 0) → ReportIs ds (refused BOOK)
  some_reversed : AllInside ds → (i : ℕ) → suc i < length ds → get_or ds (suc i) 0 < get_or ds i 0 → ReportIs ds (refused REVERSED)
  summed : AllInside ds → InOrder ds → ReportIs ds (given (sums_of ds))

-- the first and the last date of a list that has one
abbrev pub first : List ℕ → ℕ
first ds = get_or ds 0 0

abbrev pub last : List ℕ → ℕ
last ds = get_or ds (length ds - 1) 0

-- what the sums are of the first and the last date: for the two Actual bases last minus first, for 30E/360 the days between them
pub record SumsAre (ds : List ℕ) (s : Sums) : Type 0 where
  pub all_inside : AllInside ds
  pub in_order : InOrder ds
  pub ends : first ds ≤ last ds
  pub actual_360 : s.actual360 + first ds ≡ last ds
  pub actual_365 : s.actual365 + first ds ≡ last ds
  pub thirty_360 : s.thirty360 ≡ count Thirty360 (first ds) (last ds)
  -- each period has parts, whose numerators are summed
  pub periods : (k : Basis) (i : ℕ) → suc i < length ds → parts_of k (get_or ds i 0) (get_or ds (suc i) 0) ≡ given (parts_between k (get_or ds i 0) (get_or ds (suc i) 0))
