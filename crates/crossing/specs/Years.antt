-- Year fractions in numbers: a basis by its place in the list, a float by its bits, and numbers at the start of a lent list.
-- Assumes nothing.
use Rattle.std.specs.Prelude.{ℕ, ◌≡◌, List, [], ◌∷◌, leb, ℤ, Float, length}
use Rattle.std.specs.Float.{binary64}
use Rattle.std.specs.Float.Ieee.{to_bits}
use Rattle.refusal.specs.Answer.{Answer, given, refused, need, ROOM}
use Rattle.steps.specs.Build.{over}
use Rattle.fractions.specs.declared.Parts.{Parts}
use Rattle.fractions.specs.declared.reports.Sums.{Sums}
pub use Rattle.fractions.specs.Fractions.{basis_of}
use Rattle.crossing.specs.Answers.{one_number_of, done}

-- what is given, as one number: no fraction is below zero, so its bits are a number below 2 ^ 63
abbrev pub bits : Float → ℕ
bits x = to_bits binary64 x

-- ---- what is given, as numbers for a lent list
unfoldable pub two_parts : Parts → Answer (List ℕ)
two_parts p = given (p.numerator ∷ p.denominator ∷ [])

unfoldable pub three_sums : Sums → Answer (List ℕ)
three_sums s = given (s.actual360 ∷ s.actual365 ∷ s.thirty360 ∷ [])

-- a list of fewer places is 14, before all else
unfoldable pub with_places : ℕ → List ℕ → Answer (List ℕ) → Answer (List ℕ)
with_places places list a = need ROOM (leb places (length list)) a

unfoldable pub laid : Answer (List ℕ) → List ℕ → List ℕ
laid (given numbers) list = over numbers list
laid (refused n) list = list

-- the promise of a function that lays numbers in a list
pub record Laid (places : ℕ) (a : Answer (List ℕ)) (r : ℤ) (list list' : List ℕ) : Type 0 where
  pub answer : r ≡ one_number_of done (with_places places list a)
  pub list_after_lem : list' ≡ laid (with_places places list a) list
