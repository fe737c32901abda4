-- Laws of what is handed on: one for each way through the code.
-- Assumes nothing.
use Prim.Native.Nat.{ℕ, ◌<◌}
use mathlib.Core.Path.{◌≡◌}
use mathlib.Core.Bool.{Bool}
use mathlib.Core.List.{[], ◌∷◌}
use borrow.Author.Rules.{rules}
use lib.IntN.{nat_abs}
use lib.Signed.{mag}
use mir.Syntax.{w32}
use mir.Val.{to_z, of_z}
use Rattle.period.specs.Period.{is_negative}
use Rattle.period.specs.Laws.Signed.{same32}
use Rattle.calendar.specs.Adjust.{convention_number}
use Rattle.steps.specs.declared.Request.{Request}
use Rattle.steps.specs.Rules.{rule_number}
use Rattle.crossing.specs.Answers.{yes}
use Rattle.crossing.specs.Numbers.{unit_number}
use Rattle.fed.specs.Handed.{few, numbers_of}

pub numbers_are : (q : Request) (n : ℕ) {size back unit rule middle last monthend count : ℕ} {neg : Bool} → mag q.tenor.length < 2147483648
    → size ≡ nat_abs (to_z w32 (of_z w32 q.tenor.length)) → neg ≡ is_negative (to_z w32 (of_z w32 q.tenor.length)) → back ≡ yes neg → unit ≡ unit_number q.tenor.unit → rule ≡ rule_number q.rule
    → middle ≡ convention_number q.convention → last ≡ convention_number q.terminal → monthend ≡ yes q.monthend → count ≡ few n
    → (q.effective.day ∷ q.termination.day ∷ size ∷ back ∷ unit ∷ rule ∷ middle ∷ last ∷ monthend ∷ q.first.day ∷ q.penultimate.day ∷ q.mask ∷ count ∷ []) ≡ numbers_of q n
unfolding numbers_of
numbers_are q n m s g b u r c t e k =
    let z : to_z w32 (of_z w32 q.tenor.length) ≡ q.tenor.length = same32 q.tenor.length (record { sfits = m }) in
    cc

pub ruleset numbers = (numbers_are, rules)
