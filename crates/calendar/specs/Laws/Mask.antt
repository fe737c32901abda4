-- What the weekly mask says: a bit for each weekday, and all seven closed exactly if the lowest seven bits are set.
-- Assumes nothing.
use Rattle.std.specs.Prelude.{ℕ, zero, suc, ◌+◌, ◌/◌, ◌%◌, ◌^◌, ◌<◌, ◌≡◌, refl, Bool, true, false, ◌&&◌, eqb}
use Rattle.std.proofs.Common.{sym, ap, ⊎_elim, not-suc-le-zero, eq-or-lt_of_le, arith}
use Rattle.refusal.specs.Laws.Answers.{both}
use Rattle.calendar.specs.Open.{weekly_closed}

-- a week on is the same weekday
pub week_on : (mask day : ℕ) → weekly_closed mask (day + 7) ≡ weekly_closed mask day
unfolding weekly_closed
week_on mask day = ap (λ (k : ℕ). eqb (mask / 2 ^ k % 2) 1) (same day)
  where
    same : (d : ℕ) → (d + 7 + 6) % 7 ≡ (d + 6) % 7
    same d = omega arith

-- an empty mask closes no weekday
no_bit : (w : ℕ) → w < 7 → eqb (0 / 2 ^ w % 2) 1 ≡ false
no_bit zero h = refl
no_bit (suc zero) h = refl
no_bit (suc (suc zero)) h = refl
no_bit (suc (suc (suc zero))) h = refl
no_bit (suc (suc (suc (suc zero)))) h = refl
no_bit (suc (suc (suc (suc (suc zero))))) h = refl
no_bit (suc (suc (suc (suc (suc (suc zero)))))) h = refl
no_bit (suc (suc (suc (suc (suc (suc (suc w))))))) h = let bad : ⊥ = omega arith in absurd bad

pub no_weekday : (day : ℕ) → weekly_closed 0 day ≡ false
unfolding weekly_closed
no_weekday day = no_bit ((day + 6) % 7) (omega arith)

-- the seven days of the first week, Monday to Sunday
unfoldable pub all_seven : ℕ → Bool
all_seven mask =
    weekly_closed mask 1 && (weekly_closed mask 2 && (weekly_closed mask 3 && (weekly_closed mask 4 && (weekly_closed mask 5 && (weekly_closed mask 6 && weekly_closed mask 7)))))

unfoldable same : Bool → Bool → Bool
same true b = b
same false true = false
same false false = true

same_is : (a b : Bool) → same a b ≡ true → a ≡ b
unfolding same
same_is true true e = refl
same_is true false e = sym e
same_is false true e = e
same_is false false e = refl

-- for every mask below n the two tests agree
unfoldable agree : ℕ → Bool
agree zero = true
agree (suc n) = same (eqb (n % 128) 127) (all_seven n) && agree n

agreed : (n mask : ℕ) → agree n ≡ true → mask < n → eqb (mask % 128) 127 ≡ all_seven mask
unfolding agree
agreed zero mask e h = absurd (not-suc-le-zero h)
agreed (suc n) mask e h =
    ⊎_elim
    (λ (p : mask ≡ n). rw p (same_is _ _ (both (same (eqb (n % 128) 127) (all_seven n)) _ e).0))
    (λ (p : mask < n). agreed n mask (both (same (eqb (n % 128) 127) (all_seven n)) _ e).1 p)
    (eq-or-lt_of_le (omega arith))

every_mask : agree 256 ≡ true
unfolding agree same all_seven weekly_closed
every_mask = refl

-- ---- the test of the check is that all seven days are closed
pub all_seven_closed : (mask : ℕ) → mask < 256 → eqb (mask % 128) 127 ≡ all_seven mask
all_seven_closed mask h = agreed 256 mask every_mask h
