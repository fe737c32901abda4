-- Document 01, "Schedule steps" and "Refusal numbers": a whole build, what it answers, and what the lists for dates and flags then hold.
-- Assumes nothing.
use Rattle.std.specs.Prelude.{ℕ, zero, suc, min, List, ◌++◌, pos, length, drop}
use Rattle.refusal.specs.Answer.{Answer, given, refused, then}
use Rattle.period.specs.declared.Unit.TheVariants.{Days}
use Rattle.steps.specs.declared.Rule.TheVariants.{Zero}
use Rattle.steps.specs.declared.Request.{Request}
use Rattle.steps.specs.declared.Built.{Built}
use Rattle.steps.specs.Rules.{rule_in_force, tenor_in_force}
use Rattle.steps.specs.Table.{first_row, input_rows}
use Rattle.steps.specs.Generate.{generate}
use Rattle.steps.specs.Finish.{finish}

pub record Schedule : Type 0 where
  pub dates : List ℕ
  pub flags : List ℕ
  pub tries : ℕ

-- the steps of an accepted request, in a working list of 4,096 places and as much room as is lent
unfoldable pub steps_of : Request → List ℕ → ℕ → Answer Schedule
steps_of q closed room =
    then (generate q closed (min room 4096)) (λ made.
    then (finish q closed made.seed made.dates made.flags) (λ done.
    given (record { dates = done.dates; flags = done.flags; tries = made.tries })))

unfoldable pub admitted : {A : Type 0} → ℕ → (ℕ → Answer A) → ℕ → Answer A
admitted zero steps room = steps room
admitted (suc n) steps room = refused (suc n)

-- a build with that many places lent for dates and for flags
unfoldable pub build_of : Request → (closed : List ℕ) (dates flags : ℕ) → Answer Schedule
build_of q closed dates flags = admitted (first_row (input_rows q closed dates flags)) (steps_of q closed) dates

-- ---- what is answered, and what the lent lists hold
abbrev pub refused_built : ℕ → Built
refused_built n = record { number = n; count = 0; tries = 0; rule = Zero; tenor = record { length = pos 0; unit = Days }; moved = 0 }

-- `moved`, how far the dates of a schedule moved, is defined in `Entries`
unfoldable pub answered : Request → (moved : ℕ) → Answer Schedule → Built
answered q moved (refused n) = refused_built n
answered q moved (given s) =
    record { number = 0; count = length s.dates; tries = s.tries; rule = rule_in_force q; tenor = tenor_in_force q; moved = moved }

-- a list laid over the start of another: later places keep what they held
unfoldable pub over : List ℕ → List ℕ → List ℕ
over new old = new ++ drop (length new) old

unfoldable pub dates_after : Answer Schedule → List ℕ → List ℕ
dates_after (refused n) old = old
dates_after (given s) old = over s.dates old

unfoldable pub flags_after : Answer Schedule → List ℕ → List ℕ
flags_after (refused n) old = old
flags_after (given s) old = over s.flags old
