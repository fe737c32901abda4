-- Numbers that stand for a unit, a rule, a convention or a flag. Each list is in document 01's order, a number is a place in it, and a number outside it is refused 17.
-- Assumes nothing.
use Rattle.std.specs.Prelude.{ℕ, Bool, true, false, [], ◌∷◌}
use Rattle.refusal.specs.Answer.{Answer, at_place}
use Rattle.period.specs.declared.Unit.{Unit}
use Rattle.period.specs.declared.Unit.TheVariants.{Days, Weeks, Months, Years}
use Rattle.calendar.specs.declared.Convention.{Convention}
use Rattle.calendar.specs.Adjust.{conventions}
use Rattle.steps.specs.declared.Rule.{Rule}
use Rattle.steps.specs.Rules.{rules}

unfoldable pub unit_of : ℕ → Answer Unit
unit_of = at_place (Days ∷ Weeks ∷ Months ∷ Years ∷ [])

unfoldable pub rule_of : ℕ → Answer Rule
rule_of = at_place rules

unfoldable pub convention_of : ℕ → Answer Convention
convention_of = at_place conventions

-- off or on
unfoldable pub flag_of : ℕ → Answer Bool
flag_of = at_place (false ∷ true ∷ [])

-- ---- and back: the number of a unit (those of rules and conventions are `rule_number` and `convention_number`)
unfoldable pub unit_number : Unit → ℕ
unit_number Days = 0
unit_number Weeks = 1
unit_number Months = 2
unit_number Years = 3
