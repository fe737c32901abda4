-- A count in a lent list that a call gave, handed on.
-- Assumes nothing.
use Prim.Native.Nat.{ℕ, ◌<◌}
use mathlib.Core.Path.{◌≡◌}
use mathlib.Core.List.{List}
use lib.IntN.{ℤ}
use lib.Signed.{mag}
use mir.Syntax.{w64}
use mir.Val.{to_z, of_z}
use Rattle.refusal.specs.Answer.{Answer}
use Rattle.crossing.specs.Answers.{CountPlace}
use Rattle.crossing.specs.Laws.Calls.{handed}

pub placed_as : {A : Type 0} {value : A → ℕ} {count : A → ℤ} {list list' : List ℤ} {r : ℤ} (a b : Answer A) → mag r < 9223372036854775808 → a ≡ b → CountPlace value count a r list list' → CountPlace value count b (to_z w64 (of_z w64 r)) list list'
placed_as {r = r} a b s e p = rw (← e) (record { answer = handed r s p.answer; list_after_lem = p.list_after_lem })
