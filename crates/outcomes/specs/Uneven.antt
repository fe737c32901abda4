-- Request L7: when the three lent lengths are uneven.
-- Assumes nothing.
use Rattle.std.specs.Prelude.{ℕ, ◌≡◌, ◌⊎◌}

-- two of three lengths differ
abbrev pub Uneven : (dates flags unadjusted : ℕ) → Type 0
Uneven dates flags unadjusted = (dates ≡ flags → ⊥) ⊎ ((dates ≡ unadjusted → ⊥) ⊎ (flags ≡ unadjusted → ⊥))
