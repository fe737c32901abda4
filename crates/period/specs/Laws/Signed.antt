-- Numbers of 32 bits with sign, as the code's casts leave them.
-- Assumes nothing.
use Rattle.std.specs.Prelude.{ℕ, zero, suc, ◌*◌, ◌≤◌, ◌<◌, ◌≡◌, refl, true, false, ℤ, pos, negsuc, neg_ℤ, nat_abs, ◌*ℤ◌, ◌-ℤ◌}
use Rattle.std.proofs.Common.{sym, ap, ◌∙◌, arith, mul-le-mul, zero-add, SFits, Fits, to_z, of_z, to_z-of_z, le-ltb}
use Rattle.std.proofs.lemmas.Bool.{false≢true}
use Rattle.std.specs.Int.Signed.{mag, lt_z}
use Rattle.std.specs.Int.{w32, w64}
use Rattle.period.specs.Period.{is_negative}

pub same32 : (z : ℤ) → SFits w32 z → to_z w32 (of_z w32 z) ≡ z
same32 z s = to_z-of_z {w = w32} {z = z} s

pub widened : {z : ℤ} → SFits w32 z → SFits w64 z
widened s = record { sfits = omega (arith, s.sfits) }

-- a 32-bit number taken to 64 bits is the same number
pub same64 : (z : ℤ) → SFits w32 z → to_z w64 (of_z w64 (to_z w32 (of_z w32 z))) ≡ z
same64 z s = rw (same32 z s) (to_z-of_z {w = w64} {z = z} (widened s))

pub abs_small : (z : ℤ) → SFits w32 z → nat_abs z ≤ 2147483648
abs_small (pos n) s = omega (arith, s.sfits)
abs_small (negsuc n) s = omega (arith, s.sfits)

mag_neg : (k : ℕ) → mag (neg_ℤ (pos k)) ≤ k
mag_neg zero = omega arith
mag_neg (suc k) = omega arith

mag_product : (a b : ℤ) → mag (a *ℤ b) ≤ nat_abs a * nat_abs b
mag_product (pos a) (pos b) = omega arith
mag_product (pos a) (negsuc b) = mag_neg (a * suc b)
mag_product (negsuc a) (pos b) = mag_neg (suc a * b)
mag_product (negsuc a) (negsuc b) = omega arith

-- the product of two 32-bit numbers fits 64 bits
pub product_fits : (a b : ℤ) → SFits w32 a → SFits w32 b → SFits w64 (a *ℤ b)
product_fits a b s t =
    record { sfits = omega (arith, mag_product a b, mul-le-mul (abs_small a s) (abs_small b t)) }

-- that product, as the code's casts leave it
pub product_held : (a b : ℤ) → SFits w32 a → SFits w32 b → to_z w64 (of_z w64 (to_z w64 (of_z w64 (to_z w32 (of_z w32 a))) *ℤ to_z w64 (of_z w64 (to_z w32 (of_z w32 b))))) ≡ a *ℤ b
product_held a b s t = rw (same64 a s, same64 b t) (to_z-of_z {w = w64} {z = a *ℤ b} (product_fits a b s t))

-- the code's test of a sign
pub negative_test : (z : ℤ) → lt_z z (pos 0) ≡ is_negative z
negative_test (pos n) = le-ltb n 0 (omega arith)
negative_test (negsuc n) = refl

-- what holds of each negative number of 32 bits holds of one that tests below 0
pub when_neg : (P : ℤ → Type 0) → ((k : ℕ) → k < 2147483648 → P (negsuc k)) → (z : ℤ) → SFits w32 z → lt_z (to_z w32 (of_z w32 z)) (pos 0) ≡ true → P z
when_neg P f (pos n) s t = absurd (false≢true (sym (le-ltb n 0 (omega arith)) ∙ rw (to_z-of_z {w = w32} {z = pos n} s) at t))
when_neg P f (negsuc k) s t = f k s.sfits

pub when_not : (P : ℤ → Type 0) → ((k : ℕ) → k < 2147483648 → P (pos k)) → (z : ℤ) → SFits w32 z → lt_z (to_z w32 (of_z w32 z)) (pos 0) ≡ false → P z
when_not P f (pos n) s t = f n s.sfits
when_not P f (negsuc k) s t = absurd (false≢true (sym t ∙ rw (to_z-of_z {w = w32} {z = negsuc k} s)))

pub abs_fits : (z : ℤ) → SFits w32 z → SFits w64 (pos (nat_abs z))
abs_fits z s = record { sfits = omega (arith, abs_small z s) }

pub abs_back : (z : ℤ) → SFits w32 z → to_z w64 (of_z w64 (pos (nat_abs z))) ≡ pos (nat_abs z)
abs_back z s = to_z-of_z {w = w64} {z = pos (nat_abs z)} (abs_fits z s)

pub abs_fits_u : (z : ℤ) → SFits w32 z → Fits w32 (nat_abs z)
abs_fits_u z s = record { fits = omega (arith, abs_small z s) }

-- the negation of a negative number is its size
pub negated : (z : ℤ) → SFits w32 z → lt_z (to_z w32 (of_z w32 z)) (pos 0) ≡ true → pos 0 -ℤ to_z w64 (of_z w64 (to_z w32 (of_z w32 z))) ≡ pos (nat_abs z)
negated z s t = rw (same64 z s) (when_neg (λ x. pos 0 -ℤ x ≡ pos (nat_abs x)) (λ k h. ap pos (zero-add (suc k))) z s t)
