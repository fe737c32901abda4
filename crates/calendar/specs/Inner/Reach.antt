-- A base and a date found that both lie before 2400, as the code's subtraction needs them: told of a date that was found, and of no other.
-- Assumes nothing.
use Rattle.std.specs.Prelude.{ℕ, ◌≤◌, ◌≡◌}
use Rattle.refusal.specs.Answer.{Answer, given}
use Rattle.date.specs.Date.{SPAN_LAST}

abbrev pub UpTo : (base : ℕ) → Answer ℕ → Type 0
UpTo base found = (d : ℕ) → found ≡ given d → (base ≤ SPAN_LAST) × (d ≤ SPAN_LAST)
