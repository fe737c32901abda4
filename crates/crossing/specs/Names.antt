-- The names of document 01's refusals, in ASCII, and what a lent list then holds of one.
-- Assumes nothing.
use Rattle.std.specs.Prelude.{ℕ, suc, ◌≡◌, List, [], leb, ℤ, pos, negsuc, length}
use Rattle.refusal.specs.Answer.{Answer, given, refused, need, ROOM}
use Rattle.refusal.specs.Refusals.{name_of_number}
use Rattle.steps.specs.Build.{over}
use Rattle.crossing.specs.Answers.{one_number_of}

-- the name of the refusal that an answer gives, which is minus its number; an answer that is no refusal has the empty name
unfoldable pub name_of : ℤ → List ℕ
name_of (pos n) = []
name_of (negsuc n) = name_of_number (suc n)

-- ---- a name written over the start of a list; one that does not fit is 14
unfoldable pub fitting : List ℕ → List ℕ → Answer (List ℕ)
fitting name text = need ROOM (leb (length name) (length text)) (given name)

unfoldable pub text_after : Answer (List ℕ) → List ℕ → List ℕ
text_after (given name) text = over name text
text_after (refused n) text = text

-- the promise: the length of the name is answered
pub record Spelled (name : List ℕ) (r : ℤ) (text text' : List ℕ) : Type 0 where
  pub answer : r ≡ one_number_of length (fitting name text)
  pub text_after_lem : text' ≡ text_after (fitting name text) text
