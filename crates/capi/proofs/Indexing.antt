-- An index that a call made or changed, handed on.
-- Assumes nothing.
use Prim.Native.Nat.{ℕ, ◌<◌}
use mathlib.Core.Path.{◌≡◌, ◌∙◌}
use mathlib.Core.List.{List}
use lib.IntN.{ℤ}
use lib.Signed.{mag}
use mir.Syntax.{w64}
use mir.Val.{to_z, of_z}
use Rattle.refusal.specs.Answer.{Answer}
use Rattle.opendays.specs.OpenDays.{Written}
use Rattle.crossing.specs.Laws.Calls.{handed}
use Rattle.crossing.specs.Answers.{one_number_of, done}
use Rattle.crossing.specs.Indexes.{Indexed, written_number}

pub indexed_as : {o : Answer (List ℕ)} {c : Answer (Prim.Unit {0})} {index index' : List ℕ} (r : ℤ) → mag r < 9223372036854775808 → r ≡ one_number_of done c → Written o c index index' → Indexed o (to_z w64 (of_z w64 r)) index index'
indexed_as r s e w = record { answer = handed r s (e ∙ written_number w); index_after_lem = w.index_after_lem }
