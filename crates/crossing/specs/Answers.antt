-- An answer in one number: what is given, or minus the number of the refusal. The interface has no other way to refuse.
-- Assumes nothing.
use Rattle.std.specs.Prelude.{ℕ, ◌+◌, ◌*◌, ◌≡◌, Bool, true, false, List, leb, ℤ, pos, neg_ℤ, length, set}
use Rattle.refusal.specs.Answer.{Answer, given, refused, need, then, ROOM}
use Rattle.period.specs.declared.Period.{Period}
use Rattle.date.specs.declared.Fields.{Fields}
use Rattle.std.specs.declared.cmp.Ordering.{Ordering}
use Rattle.std.specs.declared.cmp.Ordering.TheVariants.{Less, Equal, Greater}
use Rattle.imm.specs.declared.codes.Code.{Code}
use Rattle.coming.specs.Coming.{Comes, begins, comes, none_comes}

abbrev pub one_number_of : {A : Type 0} → (A → ℕ) → Answer A → ℤ
one_number_of f (given a) = pos (f a)
one_number_of f (refused n) = neg_ℤ (pos n)

-- ---- what is given, as a number
abbrev pub itself : ℕ → ℕ
itself n = n

-- 20250319 is 19 March 2025
abbrev pub digits : Fields → ℕ
digits f = f.year * 10000 + f.month * 100 + f.day

abbrev pub place : Ordering → ℕ
place Less = 0
place Equal = 1
place Greater = 2

abbrev pub yes : Bool → ℕ
yes true = 1
yes false = 0

-- the two bytes of a code
abbrev pub two_bytes : Code → ℕ
two_bytes c = c.letter * 256 + c.digit

-- a coming date: 0 is no later date; else the day times 4, and 0 for an irregular period that ends there, 1 for a regular one, 2 for none
abbrev pub marked : Comes → ℕ
marked (begins d) = d * 4 + 2
marked (comes d flag) = d * 4 + flag
marked none_comes = 0

-- where nothing but the refusals is of interest, or the value stands in a lent list
abbrev pub done : {A : Type 0} → A → ℕ
done a = 0

-- ---- a count with a sign stands in the first place of a lent list; a list with no place is 14, before all else
unfoldable pub with_place : {A : Type 0} → List ℤ → Answer A → Answer A
with_place list a = need ROOM (leb 1 (length list)) a

unfoldable pub placed : {A : Type 0} → (A → ℤ) → Answer A → List ℤ → List ℤ
placed count (given a) list = set list 0 (count a)
placed count (refused n) list = list

-- the promise of a function whose answer has a number and a count
pub record CountPlace {A : Type 0} (value : A → ℕ) (count : A → ℤ) (a : Answer A) (r : ℤ) (list list' : List ℤ) : Type 0 where
  pub answer : r ≡ one_number_of value (with_place list a)
  pub list_after_lem : list' ≡ placed count (with_place list a) list

-- of one that answers a count alone
abbrev pub FirstPlace : Answer ℤ → (r : ℤ) (list list' : List ℤ) → Type 0
FirstPlace = CountPlace done (λ count. count)

-- of one that answers a date and the days that it moved: the date is the number
abbrev pub MovePlace : Answer (ℕ × ℤ) → (r : ℤ) (list list' : List ℤ) → Type 0
MovePlace = CountPlace (λ m. m.0) (λ m. m.1)

-- the length of a period
unfoldable pub length_in : Answer Period → Answer ℤ
length_in a = then a (λ p. given p.length)
