-- The numerator of 30E/360 is the number of the Definitions' formula, and is never negative.
-- Assumes nothing.
use Rattle.std.specs.Prelude.{ℕ, zero, suc, ◌+◌, ◌-◌, ◌*◌, ◌≤◌, ◌<◌, min, ◌≡◌, refl, Bool, true, false, cond, eqb, ltb, ℤ, pos, negsuc, neg_ℤ, ◌+ℤ◌, ◌*ℤ◌}
use Rattle.std.proofs.Common.{sym, ap, ◌∙◌, arith, ltb-true, ltb-false, eqb-true}
use Rattle.std.proofs.Math.IntN.{sub_ℕ}
use Rattle.std.proofs.lemmas.Bool.{eqb-false}
use Rattle.date.specs.Civil.{pick_n, fields_of}
use Rattle.date.specs.Laws.Round.{fields_valid}
use Rattle.date.specs.Laws.Months.{length_le}
use Rattle.fractions.specs.declared.Basis.TheVariants.{Thirty360}
use Rattle.fractions.specs.Fractions.{place, count}
use Rattle.fractions.specs.Formula.{read_day, formula}
use Rattle.fractions.specs.Laws.Order.{place_le}

-- ---- differences
same_go : (a b c d : ℕ) (s t : Bool) → ltb a b ≡ s → ltb c d ≡ t → a + d ≡ c + b → cond s (negsuc (b - suc a)) (pos (a - b)) ≡ cond t (negsuc (d - suc c)) (pos (c - d))
same_go a b c d true true p q h = ap negsuc (omega (arith, ltb-true a b p, ltb-true c d q))
same_go a b c d false false p q h = ap pos (omega (arith, ltb-false a b p, ltb-false c d q))
same_go a b c d true false p q h = let bad : ⊥ = omega (arith, ltb-true a b p, ltb-false c d q) in absurd bad
same_go a b c d false true p q h = let bad : ⊥ = omega (arith, ltb-false a b p, ltb-true c d q) in absurd bad

same_difference : (a b c d : ℕ) → a + d ≡ c + b → sub_ℕ a b ≡ sub_ℕ c d
same_difference a b c d h = same_go a b c d (ltb a b) (ltb c d) refl refl h

-- a difference from 0
not_less : (a b : ℕ) (s : Bool) → ltb a b ≡ s → b ≤ a → cond s (negsuc (b - suc a)) (pos (a - b)) ≡ pos (a - b)
not_less a b true p h = let bad : ⊥ = omega (arith, ltb-true a b p) in absurd bad
not_less a b false p h = refl

less : (a b : ℕ) (s : Bool) → ltb a b ≡ s → a < b → cond s (negsuc (b - suc a)) (pos (a - b)) ≡ negsuc (b - suc a)
less a b true p h = refl
less a b false p h = let bad : ⊥ = omega (arith, ltb-false a b p) in absurd bad

from_none : (n : ℕ) → sub_ℕ n 0 ≡ pos n
from_none n = not_less n 0 (ltb n 0) refl (omega arith) ∙ ap pos (omega arith)

up_to : (n : ℕ) → sub_ℕ 0 (suc n) ≡ negsuc n
up_to n = less 0 (suc n) (ltb 0 (suc n)) refl (omega arith) ∙ ap negsuc (omega arith)

sum_go : (a b c d : ℕ) (s t : Bool) → ltb a b ≡ s → ltb c d ≡ t → cond s (negsuc (b - suc a)) (pos (a - b)) +ℤ cond t (negsuc (d - suc c)) (pos (c - d)) ≡ sub_ℕ (a + c) (b + d)
sum_go a b c d true true p q =
    sym (up_to (suc (b - suc a + (d - suc c)))) ∙ same_difference 0 (suc (suc (b - suc a + (d - suc c)))) (a + c) (b + d) (omega (arith, ltb-true a b p, ltb-true c d q))
sum_go a b c d true false p q = same_difference (c - d) (suc (b - suc a)) (a + c) (b + d) (omega (arith, ltb-true a b p, ltb-false c d q))
sum_go a b c d false true p q = same_difference (a - b) (suc (d - suc c)) (a + c) (b + d) (omega (arith, ltb-false a b p, ltb-true c d q))
sum_go a b c d false false p q =
    sym (from_none (a - b + (c - d))) ∙ same_difference (a - b + (c - d)) 0 (a + c) (b + d) (omega (arith, ltb-false a b p, ltb-false c d q))

sum_of_differences : (a b c d : ℕ) → sub_ℕ a b +ℤ sub_ℕ c d ≡ sub_ℕ (a + c) (b + d)
sum_of_differences a b c d = sum_go a b c d (ltb a b) (ltb c d) refl refl

negative : (n : ℕ) → 0 < n → neg_ℤ (pos n) ≡ negsuc (n - 1)
negative zero h = let bad : ⊥ = omega arith in absurd bad
negative (suc n) h = ap negsuc (omega arith)

times_360 : (a b : ℕ) (s : Bool) → ltb a b ≡ s → pos 360 *ℤ cond s (negsuc (b - suc a)) (pos (a - b)) ≡ sub_ℕ (360 * a) (360 * b)
times_360 a b true p =
    negative (360 * suc (b - suc a)) (omega arith)
    ∙ sym (up_to (360 * suc (b - suc a) - 1))
    ∙ same_difference 0 (suc (360 * suc (b - suc a) - 1)) (360 * a) (360 * b) (omega (arith, ltb-true a b p))
times_360 a b false p = sym (from_none (360 * (a - b))) ∙ same_difference (360 * (a - b)) 0 (360 * a) (360 * b) (omega (arith, ltb-false a b p))

times_30 : (a b : ℕ) (s : Bool) → ltb a b ≡ s → pos 30 *ℤ cond s (negsuc (b - suc a)) (pos (a - b)) ≡ sub_ℕ (30 * a) (30 * b)
times_30 a b true p =
    negative (30 * suc (b - suc a)) (omega arith)
    ∙ sym (up_to (30 * suc (b - suc a) - 1))
    ∙ same_difference 0 (suc (30 * suc (b - suc a) - 1)) (30 * a) (30 * b) (omega (arith, ltb-true a b p))
times_30 a b false p = sym (from_none (30 * (a - b))) ∙ same_difference (30 * (a - b)) 0 (30 * a) (30 * b) (omega (arith, ltb-false a b p))

-- ---- the day of the month
read_go : (d : ℕ) (t : Bool) → eqb d 31 ≡ t → d ≤ 31 → pick_n t 30 d ≡ min d 30
read_go d true e h = let q : d ≡ 31 = eqb-true d 31 e in omega arith
read_go d false e h = omega (arith, eqb-false d 31 e)

read_is : (n : ℕ) → read_day (fields_of n).day ≡ min (fields_of n).day 30
unfolding read_day
read_is n =
    let v = fields_valid n in
    read_go (fields_of n).day (eqb (fields_of n).day 31) refl (omega (arith, v.last, length_le (fields_of n).year (fields_of n).month))

-- the formula is the difference of the two places
pub formula_is : (a b : ℕ) → formula (fields_of a) (fields_of b) ≡ sub_ℕ (place b) (place a)
unfolding formula place
formula_is a b =
    let y = times_360 (fields_of b).year (fields_of a).year _ refl in
    let m = times_30 (fields_of b).month (fields_of a).month _ refl in
    rw (y, m, read_is a, read_is b)
    (ap (λ (z : ℤ). z +ℤ sub_ℕ (min (fields_of b).day 30) (min (fields_of a).day 30)) (sum_of_differences (360 * (fields_of b).year) (360 * (fields_of a).year) (30 * (fields_of b).month) (30 * (fields_of a).month))
    ∙ sum_of_differences _ _ (min (fields_of b).day 30) (min (fields_of a).day 30))

-- and where the start is not after the end it is the numerator, which is therefore not negative
pub numerator_is : (a b : ℕ) → 1 ≤ a → a ≤ b → pos (count Thirty360 a b) ≡ formula (fields_of a) (fields_of b)
unfolding count
numerator_is a b o h =
    sym (from_none (place b - place a))
    ∙ same_difference (place b - place a) 0 (place b) (place a) (omega (arith, place_le a b o h))
    ∙ sym (formula_is a b)
