-- Document 01, "Refusal numbers", with request L14: the input checks of a build, 1 to 12 and 27, as the rows of the table in its order.
-- Assumes nothing.
use Rattle.std.specs.Prelude.{ℕ, Bool, true, false, not, ◌&&◌, ◌||◌, List, [], ◌∷◌, ◌++◌, eqb, leb, ltb, nat_abs}
use Rattle.refusal.specs.Answer.{UNEVEN, BOOK, CALENDAR, NEGATIVE, TENOR, FIRST_DATE, FIRST_NOT_IMM, FIRST_WRONG_RULE, LAST_DATE, LAST_NOT_IMM, LAST_WRONG_RULE, MONTHEND, SHORTEND}
use Rattle.period.specs.declared.Unit.{Unit}
use Rattle.period.specs.declared.Unit.TheVariants.{Days, Weeks, Months, Years}
use Rattle.period.specs.Period.{is_negative, is_positive}
use Rattle.date.specs.Date.{in_book}
use Rattle.calendar.specs.Open.{calendar_ok}
use Rattle.calendar.specs.Calendar.{tenor_ok}
use Rattle.imm.specs.Imm.{is_imm_date}
use Rattle.steps.specs.declared.Rule.{Rule}
use Rattle.steps.specs.declared.Rule.TheVariants.{Zero, Backward, Forward, ThirdWednesday}
use Rattle.steps.specs.declared.Request.{Request}
use Rattle.steps.specs.Rules.{one_of, is_zero, rule_in_force}

-- a row of the table: its number, and whether it holds
pub record Row : Type 0 where
  pub number : ℕ
  pub holds : Bool

unfoldable pub number_or : Bool → (n rest : ℕ) → ℕ
number_or true n rest = n
number_or false n rest = rest

-- the number of the first row that holds, or 0
unfoldable pub first_row : List Row → ℕ
first_row [] = 0
first_row (row ∷ rows) = number_or row.holds row.number (first_row rows)

-- ---- dates: only an anchor may be 0, which is no anchor
unfoldable pub is_given : ℕ → Bool
is_given anchor = not (eqb anchor 0)

unfoldable pub anchor_ok : ℕ → Bool
anchor_ok anchor = eqb anchor 0 || in_book anchor

unfoldable pub dates_ok : Request → Bool
dates_ok q = in_book q.effective.day && (in_book q.termination.day && (anchor_ok q.first.day && anchor_ok q.penultimate.day))

-- ---- anchors: 6 and 9 belong to Backward and Forward, 7 and 10 to ThirdWednesday, 8 and 11 to the seven other rules
unfoldable pub by_range : Rule → Bool
by_range rule = one_of rule (Backward ∷ Forward ∷ [])

unfoldable pub by_imm : Rule → Bool
by_imm rule = one_of rule (ThirdWednesday ∷ [])

-- an absent anchor meets no row
unfoldable pub out_of_range : Rule → ℕ → Bool → Bool
out_of_range rule anchor outside = is_given anchor && (by_range rule && outside)

unfoldable pub not_imm : Rule → ℕ → Bool
not_imm rule anchor = is_given anchor && (by_imm rule && not (is_imm_date false anchor))

unfoldable pub wrong_rule : Rule → ℕ → Bool
wrong_rule rule anchor = is_given anchor && not (by_range rule || by_imm rule)

-- the first date: not after effective, or after termination
unfoldable pub first_outside : Request → Bool
first_outside q = leb q.first.day q.effective.day || ltb q.termination.day q.first.day

-- the next-to-last date: not after effective, or not before termination
unfoldable pub last_outside : Request → Bool
last_outside q = leb q.penultimate.day q.effective.day || leb q.termination.day q.penultimate.day

-- end of month goes with Zero, Backward and Forward
unfoldable pub monthend_allowed : Rule → Bool
monthend_allowed rule = one_of rule (Zero ∷ Backward ∷ Forward ∷ [])

-- a month end asked of a tenor that counts days
unfoldable pub in_days : Unit → Bool
in_days Days = true
in_days Weeks = true
in_days Months = false
in_days Years = false

unfoldable pub short_end : Request → Rule → Bool
short_end q rule = q.monthend && ((is_positive q.tenor.length && in_days q.tenor.unit) && not (is_zero rule))

abbrev pub row : ℕ → Bool → Row
row n b = record { number = n; holds = b }

-- ---- the rows that read the rule in force
unfoldable pub anchor_rows : Rule → (anchor : ℕ) (outside : Bool) (range imm wrong : ℕ) → List Row
anchor_rows rule anchor outside range imm wrong =
    row range (out_of_range rule anchor outside)
    ∷ row imm (not_imm rule anchor)
    ∷ row wrong (wrong_rule rule anchor)
    ∷ []

unfoldable pub first_rows : Request → Rule → List Row
first_rows q rule = anchor_rows rule q.first.day (first_outside q) FIRST_DATE FIRST_NOT_IMM FIRST_WRONG_RULE

unfoldable pub last_rows : Request → Rule → List Row
last_rows q rule = anchor_rows rule q.penultimate.day (last_outside q) LAST_DATE LAST_NOT_IMM LAST_WRONG_RULE

unfoldable pub rows_under : Request → Rule → List Row
rows_under q rule =
    first_rows q rule
    ++ (last_rows q rule
    ++ (row MONTHEND (q.monthend && not (monthend_allowed rule))
    ∷ row SHORTEND (short_end q rule)
    ∷ []))

-- ---- the table; 4 and 5 read the tenor given
unfoldable pub input_rows : Request → (closed : List ℕ) (dates flags : ℕ) → List Row
input_rows q closed dates flags =
    row UNEVEN (not (eqb dates flags))
    ∷ row BOOK (not (dates_ok q))
    ∷ row CALENDAR (not (calendar_ok q.mask closed))
    ∷ row NEGATIVE (is_negative q.tenor.length)
    ∷ row TENOR (not (tenor_ok (nat_abs q.tenor.length) q.tenor.unit))
    ∷ rows_under q (rule_in_force q)
