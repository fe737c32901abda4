-- A day whose adjusted date is known.
-- Assumes nothing.
use Rattle.std.specs.Prelude.{ℕ, ◌≡◌, refl}
use Rattle.refusal.specs.Answer.{Answer, given}
use Rattle.steps.specs.declared.Sure.{Sure}

-- `A` is the adjusting that it is known of
pub record Surely (A : ℕ → Answer ℕ) (s : Sure) : Type 0 where
  pub so : (s.paid ≡ 0 → ⊥) → A s.day ≡ given s.paid

-- nothing is claimed of no day
abbrev pub unsure : Sure
unsure = record { day = 0; paid = 0 }

pub none_sure : (A : ℕ → Answer ℕ) → Surely A unsure
none_sure A = record { so = λ h. absurd (h refl) }
