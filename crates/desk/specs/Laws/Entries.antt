-- The entries of a year: who is among them, and that they are one part of a list that keeps its rule.
-- Assumes nothing.
use Prim.Native.Nat.{ℕ, zero, suc, ◌+◌, ◌≤◌, ◌<◌}
use Rattle.std.specs.Prelude.{◌≡◌, Bool, ◌&&◌, ◌||◌, length, get_or}
use Rattle.std.proofs.Math.Path.{refl, ap}
use Rattle.std.proofs.Common.{sym, ◌∙◌, arith, not-suc-le-zero, eqb-true, eq-eqb}
use Rattle.std.proofs.Math.Bool.{true, false}
use Rattle.std.proofs.lemmas.Bool.{false≢true}
use mathlib.Core.List.{List, [], ◌∷◌}
use Rattle.std.proofs.Math.Dec.{eqb}
use Rattle.std.proofs.Math.ListN.{take, drop}
use Rattle.calendar.specs.Open.{member}
use Rattle.desk.specs.Desk.{year_of, kept, entries_in, or_else, run_of, has_none, left_to}

-- ---- membership
module _ (year day : ℕ) where
  kept_member : (b : Bool) (x : ℕ) (xs rest : List ℕ) → eqb (year_of x) year ≡ b → member day rest ≡ (eqb (year_of day) year && member day xs) → member day (kept b x rest) ≡ (eqb (year_of day) year && (eqb x day || member day xs))
  unfolding kept member
  kept_member b x xs rest e h = by b (eqb x day) e refl
    where
      by : (b d : Bool) → eqb (year_of x) year ≡ b → eqb x day ≡ d → member day (kept b x rest) ≡ (eqb (year_of day) year && (d || member day xs))
      by true true e f = rw (f, ap (λ (k : ℕ). eqb (year_of k) year) (sym (eqb-true x day f)) ∙ e) refl
      by true false e f = rw f h
      by false true e f = h ∙ rw (ap (λ (k : ℕ). eqb (year_of k) year) (sym (eqb-true x day f)) ∙ e) refl
      by false false e f = h

  -- a day is among the entries exactly if it lies in the year and is listed
  pub entry_member : (xs : List ℕ) → member day (entries_in year xs) ≡ (eqb (year_of day) year && member day xs)
  unfolding entries_in member
  entry_member [] = by (eqb (year_of day) year)
    where
      by : (b : Bool) → false ≡ (b && false)
      by true = refl
      by false = refl
  entry_member (x ∷ xs) = kept_member (eqb (year_of x) year) x xs (entries_in year xs) refl (entry_member xs)

pub own_year : (day : ℕ) (xs : List ℕ) → member day (entries_in (year_of day) xs) ≡ member day xs
own_year day xs = entry_member (year_of day) day xs ∙ ap (λ (b : Bool). b && member day xs) (eq-eqb (year_of day) (year_of day) refl)

-- a list with no entry has no member
pub none_member : (day : ℕ) (xs : List ℕ) → has_none xs ≡ true → member day xs ≡ false
unfolding has_none member
none_member day [] e = refl
none_member day (x ∷ xs) e = absurd (false≢true e)

pub or_else_lem : (b : Bool) (day : ℕ) (xs ys : List ℕ) → has_none xs ≡ b → member day (or_else xs ys) ≡ (member day xs || (member day ys && b))
unfolding has_none or_else member
or_else_lem true day [] ys e = by (member day ys)
  where
    by : (m : Bool) → m ≡ (m && true)
    by true = refl
    by false = refl
or_else_lem false day [] ys e = absurd (false≢true (sym e))
or_else_lem true day (x ∷ xs) ys e = absurd (false≢true e)
or_else_lem false day (x ∷ xs) ys e = by (member day (x ∷ xs)) (member day ys)
  where
    by : (m n : Bool) → m ≡ (m || (n && false))
    by true n = refl
    by false true = refl
    by false false = refl

-- ---- a day is in the run of its own year exactly if the desk lists it, or the house does and the year is left to it
pub run_member : (desk house : List ℕ) (day : ℕ) → member day (run_of desk house (year_of day)) ≡ (member day desk || (member day house && left_to desk day))
unfolding run_of left_to
run_member desk house day =
    or_else_lem (has_none (entries_in (year_of day) desk)) day (entries_in (year_of day) desk) (entries_in (year_of day) house) refl
    ∙ ap (λ (b : Bool). b || (member day (entries_in (year_of day) house) && left_to desk day)) (own_year day desk)
    ∙ ap (λ (b : Bool). member day desk || (b && left_to desk day)) (own_year day house)

-- ---- one part
unfoldable in_it : ℕ → ℕ → Bool
in_it year x = eqb (year_of x) year

module _ (year : ℕ) where
  pub nothing : (xs : List ℕ) → ((k : ℕ) → k < length xs → eqb (year_of (get_or xs k 0)) year ≡ false) → entries_in year xs ≡ []
  unfolding entries_in kept
  nothing [] f = refl
  nothing (x ∷ xs) f = rw (f 0 (omega arith)) (nothing xs (λ k h. f (suc k) (omega arith)))

  pub one_part : (xs : List ℕ) (a n : ℕ) → ((k : ℕ) → k < a → k < length xs → eqb (year_of (get_or xs k 0)) year ≡ false) → ((k : ℕ) → a ≤ k → k < a + n → k < length xs → eqb (year_of (get_or xs k 0)) year ≡ true) → ((k : ℕ) → a + n ≤ k → k < length xs → eqb (year_of (get_or xs k 0)) year ≡ false) → entries_in year xs ≡ take n (drop a xs)
  unfolding entries_in kept take drop
  one_part [] zero zero f g h = refl
  one_part [] zero (suc n) f g h = refl
  one_part [] (suc a) zero f g h = refl
  one_part [] (suc a) (suc n) f g h = refl
  one_part (x ∷ xs) zero zero f g h = nothing (x ∷ xs) (λ k l. h k (omega arith) l)
  one_part (x ∷ xs) zero (suc n) f g h =
      rw (g 0 (omega arith) (omega arith) (omega arith))
      (ap (λ (ys : List ℕ). x ∷ ys) (one_part xs zero n (λ k l m. absurd (not-suc-le-zero l)) (λ k l m o. g (suc k) (omega arith) (omega arith) (omega arith)) (λ k l m. h (suc k) (omega arith) (omega arith))))
  one_part (x ∷ xs) (suc a) n f g h =
      rw (f 0 (omega arith) (omega arith))
      (one_part xs a n (λ k l m. f (suc k) (omega arith) (omega arith)) (λ k l m o. g (suc k) (omega arith) (omega arith) (omega arith)) (λ k l m. h (suc k) (omega arith) (omega arith)))
