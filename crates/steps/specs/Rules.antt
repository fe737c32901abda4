-- Document 01, "Schedule steps": the ten rules, and the groups of them that the steps speak of.
-- Assumes nothing.
use Rattle.std.specs.Prelude.{ℕ, ◌*◌, Bool, true, false, ◌||◌, List, [], ◌∷◌, eqb, ℤ, pos, nat_abs}
use Rattle.refusal.specs.Answer.{Answer, at_place}
use Rattle.period.specs.declared.Unit.{Unit}
use Rattle.period.specs.declared.Unit.TheVariants.{Days, Weeks, Months, Years}
use Rattle.period.specs.declared.Period.{Period}
use Rattle.steps.specs.declared.Rule.{Rule}
use Rattle.steps.specs.declared.Rule.TheVariants.{Zero, Backward, Forward, Twentieth, TwentiethIMM, ThirdWednesday, ThirdWednesdayInclusive, OldCDS, CDS, CDS2015}
use Rattle.steps.specs.declared.Request.{Request}
use Rattle.steps.specs.declared.Pace.{Pace}

-- the rules in document 01's order, and their numbers, which are their places
unfoldable pub rules : List Rule
rules =
    Zero ∷ Backward ∷ Forward ∷ Twentieth ∷ TwentiethIMM ∷ ThirdWednesday ∷ ThirdWednesdayInclusive ∷ OldCDS ∷ CDS ∷ CDS2015 ∷ []

unfoldable pub rule_number : Rule → ℕ
rule_number Zero = 0
rule_number Backward = 1
rule_number Forward = 2
rule_number Twentieth = 3
rule_number TwentiethIMM = 4
rule_number ThirdWednesday = 5
rule_number ThirdWednesdayInclusive = 6
rule_number OldCDS = 7
rule_number CDS = 8
rule_number CDS2015 = 9

-- the rule with a number; a number outside the list is refused
unfoldable pub rule_of : ℕ → Answer Rule
rule_of = at_place rules

-- ---- a group of rules is a list of its members
unfoldable pub one_of : Rule → List Rule → Bool
one_of rule [] = false
one_of rule (member ∷ group) = eqb (rule_number rule) (rule_number member) || one_of rule group

unfoldable pub is_zero : Rule → Bool
is_zero rule = one_of rule (Zero ∷ [])

unfoldable pub is_backward : Rule → Bool
is_backward rule = one_of rule (Backward ∷ [])

-- the rules whose middle dates are twentieths
unfoldable pub on_twentieths : Rule → Bool
on_twentieths rule = one_of rule (Twentieth ∷ TwentiethIMM ∷ OldCDS ∷ CDS ∷ CDS2015 ∷ [])

-- those of them that are limited to March, June, September and December
unfoldable pub in_imm_months : Rule → Bool
in_imm_months rule = one_of rule (TwentiethIMM ∷ OldCDS ∷ CDS ∷ CDS2015 ∷ [])

-- those of them that start at the previous twentieth
unfoldable pub is_credit : Rule → Bool
is_credit rule = one_of rule (CDS ∷ CDS2015 ∷ [])

unfoldable pub is_old_cds : Rule → Bool
is_old_cds rule = one_of rule (OldCDS ∷ [])

-- ---- length 0 forces Zero, and under Zero the tenor in force is 0 years
unfoldable pub rule_under : Bool → Rule → Rule
rule_under true rule = Zero
rule_under false rule = rule

unfoldable pub is_none : ℤ → Bool
is_none z = eqb (nat_abs z) 0

unfoldable pub rule_in_force : Request → Rule
rule_in_force q = rule_under (is_none q.tenor.length) q.rule

unfoldable pub tenor_under : Bool → Period → Period
tenor_under true tenor = record { length = pos 0; unit = Years }
tenor_under false tenor = tenor

unfoldable pub tenor_in_force : Request → Period
tenor_in_force q = tenor_under (is_zero (rule_in_force q)) q.tenor

-- ---- a tenor as a count of days or of months
unfoldable pub pace_by : ℕ → Unit → Pace
pace_by n Days = record { monthly = false; size = n }
pace_by n Weeks = record { monthly = false; size = 7 * n }
pace_by n Months = record { monthly = true; size = n }
pace_by n Years = record { monthly = true; size = 12 * n }

unfoldable pub pace_of : Period → Pace
pace_of tenor = pace_by (nat_abs tenor.length) tenor.unit
