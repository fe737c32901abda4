-- A book in one number: how many requests there were, or minus the number of the refusal; and what the four lent lists then hold.
-- Assumes nothing.
use Rattle.std.specs.Prelude.{ℕ, ◌≡◌, List, ℤ, length}
use Rattle.refusal.specs.Answer.{Answer}
use Rattle.crossing.specs.Answers.{one_number_of}
use Rattle.book.specs.Book.{Lists, lists_after}

unfoldable pub how_many : List (List ℕ) → ℕ
how_many rs = length rs

-- the promise of a book
pub record Told (o : Answer (List (List ℕ))) (r : ℤ) (l l' : Lists) : Type 0 where
  pub count : r ≡ one_number_of how_many o
  pub after : l' ≡ lists_after o l
