-- What is printed of a build's record and of the lists that it filled.
-- Assumes nothing.
use Rattle.std.specs.Prelude.{ℕ, zero, suc, List, take}
use Rattle.steps.specs.declared.Built.{Built}
use Rattle.printing.specs.Text.{schedule_text, refusal_text}

unfoldable pub by_number_of : ℕ → List ℕ → List ℕ
by_number_of zero text = text
by_number_of (suc n) text = refusal_text (suc n)

unfoldable pub shown_text : Built → (dates flags unadjusted : List ℕ) → List ℕ
shown_text b dates flags unadjusted =
    by_number_of b.number (schedule_text b.tries (take b.count dates) flags (take b.count unadjusted))
