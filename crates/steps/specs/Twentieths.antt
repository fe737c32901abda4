-- Document 01, "Schedule steps": the twentieth on or after a date, and on or before it.
-- Assumes nothing.
use Rattle.std.specs.Prelude.{ℕ, ◌-◌, ◌%◌, Bool, true, false, ltb}
use Rattle.refusal.specs.Answer.{Answer, given, need, then, BOOK}
use Rattle.date.specs.Civil.{fields_of}
use Rattle.date.specs.Date.{in_book, make_of, shift_months}
use Rattle.steps.specs.declared.Rule.{Rule}
use Rattle.steps.specs.Rules.{in_imm_months}

-- the twentieth of a date's month
unfoldable pub twentieth_of : ℕ → Answer ℕ
twentieth_of day = make_of (fields_of day).year (fields_of day).month 20

-- a month on, or back, where the test holds
unfoldable pub moved_if : Bool → (back : Bool) (months day : ℕ) → Answer ℕ
moved_if true back months day = shift_months day back months
moved_if false back months day = given day

-- how many months a month lies after the last of March, June, September and December, or before the next
unfoldable pub skip_of : Bool → ℕ → ℕ
skip_of true month = month % 3
skip_of false month = (3 - month % 3) % 3

-- back to an IMM month, or on to one
unfoldable pub to_imm_month : Rule → Bool → ℕ → Answer ℕ
to_imm_month rule back day = moved_if (in_imm_months rule) back (skip_of back (fields_of day).month) day

unfoldable pub next_twentieth : Rule → ℕ → Answer ℕ
next_twentieth rule day =
    then (twentieth_of day) (λ t. then (moved_if (ltb t day) false 1 t) (to_imm_month rule false))

unfoldable pub previous_twentieth : Rule → ℕ → Answer ℕ
previous_twentieth rule day =
    then (twentieth_of day) (λ t. then (moved_if (ltb day t) true 1 t) (to_imm_month rule true))

-- ---- the public functions: the date lies in the book
unfoldable pub next_twentieth_of : Rule → ℕ → Answer ℕ
next_twentieth_of rule day = need BOOK (in_book day) (next_twentieth rule day)

unfoldable pub previous_twentieth_of : Rule → ℕ → Answer ℕ
previous_twentieth_of rule day = need BOOK (in_book day) (previous_twentieth rule day)
