-- The bound of a flag's byte, which counts a leap day; the rule for the lengths of the months gives the entries of both rows.
-- Assumes nothing.
use Prim.Native.Nat.{ℕ, ◌+◌, ◌*◌, ◌/◌, ◌%◌, ◌<◌}
use mathlib.Core.Path.{◌≡◌, refl}
use mathlib.Core.Bool.{Bool, true, false, ◌||◌}
use lib.Dec.{eqb, lit<}
use lib.ListN.{get_or}
use mir.Val.{bool_byte}
use borrow.Author.Tests.{eqb-true, ne_eqb}
use Rattle.refusal.specs.Laws.Answers.{all_below, below}
use Rattle.date.specs.Civil.{row_of}

pub flag_below : (l : Bool) → bool_byte l < 2
flag_below true = lit< tt
flag_below false = lit< tt

-- ---- February
february_at : (l : Bool) → 28 + bool_byte l ≡ get_or (row_of l) 1 0
unfolding row_of
february_at true = refl
february_at false = refl

pub february : (l : Bool) (m : ℕ) → m ≡ 1 → 28 + bool_byte l ≡ get_or (row_of l) m 0
february l m e = rw e (february_at l)

-- ---- the other months, of 31 and of 30 days by turns
unfoldable by_turns : ℕ → ℕ
by_turns m = 30 + 9 * (m + 1) / 8 % 2

turns_at : (l : Bool) (m : ℕ) → m < 12 → (eqb m 1 || eqb (by_turns m) (get_or (row_of l) m 0)) ≡ true
unfolding all_below by_turns row_of
turns_at true m h = below 12 (λ k. eqb k 1 || eqb (by_turns k) (get_or (row_of true) k 0)) refl m h
turns_at false m h = below 12 (λ k. eqb k 1 || eqb (by_turns k) (get_or (row_of false) k 0)) refl m h

pub turns : (l : Bool) (m : ℕ) → (m ≡ 1 → ⊥) → m < 12 → 30 + 9 * (m + 1) / 8 % 2 ≡ get_or (row_of l) m 0
unfolding by_turns
turns l m n h = eqb-true _ _ (rw (ne_eqb m 1 n) at (turns_at l m h))
