-- What the functions under a book promise each other: a single call.
-- Assumes nothing.
use Rattle.std.specs.Prelude.{ℕ, zero, suc, ◌≡◌, List, [], ◌∷◌}
use Rattle.refusal.specs.Answer.{Answer}
use Rattle.steps.specs.declared.Built.{Built}
use Rattle.steps.specs.Build.{dates_after, flags_after}
use Rattle.steps.specs.Entries.{Entries, paid_of, unadjusted_after}
use Rattle.book.specs.Book.{count_of, four_numbers}

-- what a build's record takes and puts, by its number
unfoldable pub count_by : (number count : ℕ) → ℕ
count_by zero count = count
count_by (suc n) count = 0

unfoldable pub numbers_by : (start number count tries : ℕ) → List ℕ
numbers_by start zero count tries = count ∷ start ∷ tries ∷ 0 ∷ []
numbers_by start (suc n) count tries = 0 ∷ 0 ∷ 0 ∷ suc n ∷ []

abbrev pub count_in : Built → ℕ
count_in b = count_by b.number b.count

abbrev pub numbers_in : ℕ → Built → List ℕ
numbers_in start b = numbers_by start b.number b.count b.tries

pub record Calls (o : Answer Entries) (b : Built) (dates flags unadjusted dates' flags' unadjusted' : List ℕ) : Type 0 where
  pub count : count_in b ≡ count_of o
  pub numbers : (start : ℕ) → numbers_in start b ≡ four_numbers start o
  pub dates_then : dates' ≡ dates_after (paid_of o) dates
  pub flags_then : flags' ≡ flags_after (paid_of o) flags
  pub unadjusted_then : unadjusted' ≡ unadjusted_after o unadjusted
