-- Where the dates are in order, each sum is the count of one period from the first date to the last.
-- Assumes nothing.
use Rattle.std.specs.Prelude.{ℕ, ◌+◌, ◌-◌, ◌≤◌, ◌≡◌, refl, true, List, [], ◌∷◌, leb, length, get_or}
use Rattle.std.proofs.Common.{sym, ap, ◌∙◌, arith, leb-true}
use Rattle.refusal.specs.Laws.Answers.{both}
use Rattle.fractions.specs.declared.Basis.{Basis}
use Rattle.fractions.specs.declared.Basis.TheVariants.{Actual360, Actual365, Thirty360}
use Rattle.fractions.specs.declared.reports.Sums.{Sums}
use Rattle.fractions.specs.Fractions.{place, count}
use Rattle.fractions.specs.Reports.{rises_from, sum_from, sum_of, sums_of}
use Rattle.fractions.specs.Laws.Order.{place_le}

-- the three sums of one period
unfoldable pub between : ℕ → ℕ → Sums
between a b = record { actual360 = b - a; actual365 = b - a; thirty360 = place b - place a }

-- the last date of a list that starts with a
unfoldable pub last_from : ℕ → List ℕ → ℕ
last_from a [] = a
last_from a (b ∷ ds) = last_from b ds

last_is : (a : ℕ) (ds : List ℕ) → get_or (a ∷ ds) (length ds) 0 ≡ last_from a ds
unfolding last_from
last_is a [] = refl
last_is a (b ∷ ds) = last_is b ds

pub last_at : (a : ℕ) (ds : List ℕ) → get_or (a ∷ ds) (length (a ∷ ds) - 1) 0 ≡ last_from a ds
last_at a ds =
    let q : length (a ∷ ds) - 1 ≡ length ds = omega arith in
    ap (λ (k : ℕ). get_or (a ∷ ds) k 0) q ∙ last_is a ds

pub last_le : (a : ℕ) (ds : List ℕ) → rises_from a ds ≡ true → a ≤ last_from a ds
unfolding last_from rises_from
last_le a [] h = omega arith
last_le a (b ∷ ds) h =
    let p = both (leb a b) (rises_from b ds) h in
    omega (arith, leb-true a b p.0, last_le b ds p.1)

-- a count to a day and on from it is a count to the end
count_le : (k : Basis) (a b c : ℕ) → 1 ≤ a → a ≤ b → b ≤ c → count k a b + count k b c ≡ count k a c
unfolding count
count_le Actual360 a b c o p q = omega arith
count_le Actual365 a b c o p q = omega arith
count_le Thirty360 a b c o p q = omega (arith, place_le a b o p, place_le b c (omega arith) q)

count_none : (k : Basis) (a : ℕ) → count k a a ≡ 0
unfolding count
count_none Actual360 a = omega arith
count_none Actual365 a = omega arith
count_none Thirty360 a = omega arith

sum_from_lem : (k : Basis) (a : ℕ) (ds : List ℕ) → 1 ≤ a → rises_from a ds ≡ true → sum_from k a ds ≡ count k a (last_from a ds)
unfolding sum_from last_from rises_from
sum_from_lem k a [] o h = sym (count_none k a)
sum_from_lem k a (b ∷ ds) o h =
    let p = both (leb a b) (rises_from b ds) h in
    let i = leb-true a b p.0 in
    ap (λ (x : ℕ). count k a b + x) (sum_from_lem k b ds (omega arith) p.1) ∙ count_le k a b (last_from b ds) o i (last_le b ds p.1)

-- the sums of dates in order are those of the first and the last; for the two Actual bases, last minus first
pub sums_are : (a : ℕ) (ds : List ℕ) → 1 ≤ a → rises_from a ds ≡ true → sums_of (a ∷ ds) ≡ between a (last_from a ds)
unfolding sums_of sum_of between count
sums_are a ds o h = rw (sum_from_lem Actual360 a ds o h, sum_from_lem Actual365 a ds o h, sum_from_lem Thirty360 a ds o h) refl
