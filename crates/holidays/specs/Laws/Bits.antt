-- Bits of a word: one that is not set is set by adding its power of two, and no other moves.
-- Assumes nothing.
use Rattle.std.specs.Prelude.{ℕ, zero, suc, ◌+◌, ◌-◌, ◌*◌, ◌/◌, ◌%◌, ◌^◌, ◌≤◌, ◌<◌, ◌≡◌, refl, true, false, eqb}
use Rattle.std.proofs.Common.{sym, ap, ◌∙◌, arith, eq-eqb, ne_eqb}
use Rattle.std.proofs.lemmas.Bool.{eqb-false}
use Rattle.std.proofs.Math.Nat.{pow-succ', div-div-eq-div-mul}
use Rattle.holidays.specs.Inner.Days.{bit_of}

-- the digit of 2 to the power k
unfoldable digit : ℕ → ℕ → ℕ
digit m zero = m % 2
digit m (suc k) = digit (m / 2) k

digit_is : (m k : ℕ) → m / 2 ^ k % 2 ≡ digit m k
unfolding digit
digit_is m zero = omega arith
digit_is m (suc k) = ap (λ (x : ℕ). m / x % 2) (pow-succ' 2 k) ∙ ap (λ (x : ℕ). x % 2) (sym (div-div-eq-div-mul m 2 (2 ^ k))) ∙ digit_is (m / 2) k

digit_two : (m k : ℕ) → digit m k < 2
unfolding digit
digit_two m zero = omega arith
digit_two m (suc k) = digit_two (m / 2) k

halves : (m p : ℕ) → (m + 2 * p) / 2 ≡ m / 2 + p
halves m p = omega arith

put_same : (m k : ℕ) → digit m k ≡ 0 → digit (m + 2 ^ k) k ≡ 1
unfolding digit
put_same m zero h = omega arith
put_same m (suc k) h = ap (λ (x : ℕ). digit ((m + x) / 2) k) (pow-succ' 2 k) ∙ ap (λ (x : ℕ). digit x k) (halves m (2 ^ k)) ∙ put_same (m / 2) k h

put_other : (m k j : ℕ) → digit m k ≡ 0 → (j ≡ k → ⊥) → digit (m + 2 ^ k) j ≡ digit m j
unfolding digit
put_other m zero zero h n = absurd (n refl)
put_other m zero (suc j) h n = ap (λ (x : ℕ). digit x j) (omega arith)
put_other m (suc k) zero h n = ap (λ (x : ℕ). (m + x) % 2) (pow-succ' 2 k) ∙ omega arith
put_other m (suc k) (suc j) h n =
    ap (λ (x : ℕ). digit ((m + x) / 2) j) (pow-succ' 2 k) ∙ ap (λ (x : ℕ). digit x j) (halves m (2 ^ k)) ∙ put_other (m / 2) k j h (λ e. n (ap suc e))

put_fits : (n m k : ℕ) → m < 2 ^ n → k < n → digit m k ≡ 0 → m + 2 ^ k < 2 ^ n
unfolding digit
put_fits zero m k h l e = let bad : ⊥ = omega arith in absurd bad
put_fits (suc n) m zero h l e = let p = pow-succ' 2 n in omega arith
put_fits (suc n) m (suc k) h l e =
    let p = pow-succ' 2 n in
    let q = pow-succ' 2 k in
    let i = put_fits n (m / 2) k (omega arith) (omega arith) e in
    omega arith

full_digit : (n j : ℕ) → j < n → digit (2 ^ n - 1) j ≡ 1
unfolding digit
full_digit zero j h = let bad : ⊥ = omega arith in absurd bad
full_digit (suc n) zero h = let p = pow-succ' 2 n in let q = positive n in omega arith
  where
    positive : (k : ℕ) → 1 ≤ 2 ^ k
    positive zero = omega arith
    positive (suc k) = let r = pow-succ' 2 k in let t = positive k in omega arith
full_digit (suc n) (suc j) h = ap (λ (x : ℕ). digit x j) (half (2 ^ suc n) (2 ^ n) (pow-succ' 2 n)) ∙ full_digit n j (omega arith)
  where
    half : (a b : ℕ) → a ≡ 2 * b → (a - 1) / 2 ≡ b - 1
    half a b e = omega arith

zero_digit : (j : ℕ) → digit 0 j ≡ 0
unfolding digit
zero_digit zero = refl
zero_digit (suc j) = zero_digit j

-- ---- the same of the bits
clear : (m k : ℕ) → bit_of m k ≡ false → digit m k ≡ 0
unfolding bit_of
clear m k h = let n : ¬ (m / 2 ^ k % 2 ≡ 1) = eqb-false _ 1 h in let e = digit_is m k in let t = digit_two m k in omega arith

bit_by : (m k j l : ℕ) → digit m j ≡ digit k l → bit_of m j ≡ bit_of k l
unfolding bit_of
bit_by m k j l e = ap (λ (x : ℕ). eqb x 1) (digit_is m j ∙ e ∙ sym (digit_is k l))

pub bit_put : (m k : ℕ) → bit_of m k ≡ false → bit_of (m + 2 ^ k) k ≡ true
unfolding bit_of
bit_put m k h = eq-eqb _ 1 (digit_is (m + 2 ^ k) k ∙ put_same m k (clear m k h))

pub bit_kept : (m k j : ℕ) → bit_of m k ≡ false → (j ≡ k → ⊥) → bit_of (m + 2 ^ k) j ≡ bit_of m j
bit_kept m k j h n = bit_by (m + 2 ^ k) m j j (put_other m k j (clear m k h) n)

pub bit_fits : (m k : ℕ) → m < 4294967296 → k < 32 → bit_of m k ≡ false → m + 2 ^ k < 4294967296
bit_fits m k h l e = put_fits 32 m k h l (clear m k e)

pub bit_full : (j : ℕ) → j < 32 → bit_of 4294967295 j ≡ true
unfolding bit_of
bit_full j h = eq-eqb _ 1 (digit_is 4294967295 j ∙ full_digit 32 j h)

pub bit_empty : (j : ℕ) → bit_of 0 j ≡ false
unfolding bit_of
bit_empty j = ne_eqb (0 / 2 ^ j % 2) 1 (λ e. let d = digit_is 0 j in let z = zero_digit j in omega arith)
