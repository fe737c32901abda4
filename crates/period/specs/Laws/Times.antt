-- The tests of `times`: by the bounds of 32 bits, and by whether a product fits them.
-- Assumes nothing.
use Rattle.std.specs.Prelude.{ℕ, ◌≤◌, ◌≡◌, Bool, true, false, leb, ℤ, pos, negsuc, ◌*ℤ◌, FitsSigned}
use Rattle.std.proofs.Math.Path.{refl}
use Rattle.std.proofs.lemmas.Bool.{false≢true, lt-leb}
use Rattle.std.proofs.Common.{arith, SFits, ltb-true, ltb-false, leb-true, le-leb}
use Rattle.std.specs.Int.Signed.{lt_z}
use Rattle.std.specs.Int.{w32}
use Rattle.refusal.specs.Answer.{given, refused, need, TENOR}
use Rattle.refusal.specs.Laws.Answers.{fails, holds}
use Rattle.period.specs.declared.Unit.{Unit}
use Rattle.period.specs.Period.{fits32, times_of}

below : (z : ℤ) → lt_z z (negsuc 2147483647) ≡ true → fits32 z ≡ false
unfolding fits32
below (pos n) t = absurd (false≢true t)
below (negsuc n) t = simp (lt-leb n 2147483647 (ltb-true 2147483647 n t))

above : (z : ℤ) → lt_z (pos 2147483647) z ≡ true → fits32 z ≡ false
unfolding fits32
above (pos n) t = lt-leb n 2147483647 (ltb-true 2147483647 n t)
above (negsuc n) t = absurd (false≢true t)

inside : (z : ℤ) → lt_z z (negsuc 2147483647) ≡ false → lt_z (pos 2147483647) z ≡ false → fits32 z ≡ true
unfolding fits32
inside (pos n) low high = le-leb n 2147483647 (ltb-false 2147483647 n high)
inside (negsuc n) low high = simp (le-leb n 2147483647 (ltb-false 2147483647 n low))

-- a product that passes both tests fits 32 bits
pub kept : (z : ℤ) → lt_z z (negsuc 2147483647) ≡ false → lt_z (pos 2147483647) z ≡ false → SFits w32 z
kept (pos n) low high = record { sfits = omega (arith, ltb-false 2147483647 n high) }
kept (negsuc n) low high = record { sfits = omega (arith, ltb-false 2147483647 n low) }

module _ (a b : ℤ) (u : Unit) where
  pub times_low : lt_z (a *ℤ b) (negsuc 2147483647) ≡ true → refused 5 ≡ times_of a u b
  unfolding times_of
  times_low t = fails 5 _ _ (below (a *ℤ b) t)

  pub times_high : lt_z (pos 2147483647) (a *ℤ b) ≡ true → refused 5 ≡ times_of a u b
  unfolding times_of
  times_high t = fails 5 _ _ (above (a *ℤ b) t)

  pub times_given : lt_z (a *ℤ b) (negsuc 2147483647) ≡ false → lt_z (pos 2147483647) (a *ℤ b) ≡ false → given (record { length = a *ℤ b; unit = u }) ≡ times_of a u b
  unfolding times_of
  times_given low high = holds 5 _ _ _ (inside (a *ℤ b) low high) refl

-- ---- by whether the product fits 32 bits
fit : (z : ℤ) → FitsSigned w32 z → fits32 z ≡ true
unfolding fits32
fit (pos n) f = le-leb n 2147483647 (omega (arith, f.sfits))
fit (negsuc n) f = simp (le-leb n 2147483647 (omega (arith, f.sfits)))

over : (n : ℕ) (t : Bool) → leb n 2147483647 ≡ t → (n ≤ 2147483647 → ⊥) → t ≡ false
over n true e f = absurd (f (leb-true n 2147483647 e))
over n false e f = refl

unfit : (z : ℤ) → (FitsSigned w32 z → ⊥) → fits32 z ≡ false
unfolding fits32
unfit (pos n) f = over n _ refl (λ h. f (record { sfits = omega (arith, h) }))
unfit (negsuc n) f = let e : leb n 2147483647 ≡ false = over n _ refl (λ h. f (record { sfits = omega (arith, h) })) in simp e

pub times_fits : (a b : ℤ) (u : Unit) → FitsSigned w32 (a *ℤ b) → times_of a u b ≡ given (record { length = a *ℤ b; unit = u })
unfolding times_of need
times_fits a b u f = simp (fit (a *ℤ b) f)

pub times_unfit : (a b : ℤ) (u : Unit) → (FitsSigned w32 (a *ℤ b) → ⊥) → times_of a u b ≡ refused TENOR
unfolding times_of need
times_unfit a b u f = simp (unfit (a *ℤ b) f)
