-- Request L12, "A report over a schedule": the sums of the numerators over the periods of a list of paid dates. Period i is dates i and i + 1.
-- Assumes nothing.
use Rattle.std.specs.Prelude.{ℕ, ◌+◌, Bool, true, ◌&&◌, List, [], ◌∷◌, leb}
use Rattle.refusal.specs.Answer.{Answer, given, need, BOOK, REVERSED}
use Rattle.fractions.specs.declared.Basis.{Basis}
use Rattle.fractions.specs.declared.Basis.TheVariants.{Actual360, Actual365, Thirty360}
use Rattle.fractions.specs.declared.reports.Sums.{Sums}
use Rattle.fractions.specs.Fractions.{in_span, count}

-- every date lies in the span
unfoldable pub all_in : List ℕ → Bool
all_in [] = true
all_in (a ∷ ds) = in_span a && all_in ds

-- no date lies before the one before it
unfoldable pub rises_from : ℕ → List ℕ → Bool
rises_from a [] = true
rises_from a (b ∷ ds) = leb a b && rises_from b ds

unfoldable pub rises : List ℕ → Bool
rises [] = true
rises (a ∷ ds) = rises_from a ds

-- the sum of the numerators; of no date or one it is 0
unfoldable pub sum_from : Basis → ℕ → List ℕ → ℕ
sum_from k a [] = 0
sum_from k a (b ∷ ds) = count k a b + sum_from k b ds

unfoldable pub sum_of : Basis → List ℕ → ℕ
sum_of k [] = 0
sum_of k (a ∷ ds) = sum_from k a ds

unfoldable pub sums_of : List ℕ → Sums
sums_of ds = record { actual360 = sum_of Actual360 ds; actual365 = sum_of Actual365 ds; thirty360 = sum_of Thirty360 ds }

-- 2 of any date, then 26 of any period
unfoldable pub report_of : List ℕ → Answer Sums
report_of ds = need BOOK (all_in ds) (need REVERSED (rises ds) (given (sums_of ds)))
