-- Document 02, "the coming date without the list": which requests the question answers, what it is refused with, and the coming date by one division.
-- That it is what the list shows is said in Promise.
-- Assumes nothing.
use Rattle.std.specs.Prelude.{ℕ, zero, suc, ◌+◌, ◌/◌, Bool, true, false, not, ◌&&◌, ◌||◌, List, [], ◌∷◌, eqb, leb, ltb, nat_abs, Result, Ok, Err}
use Rattle.refusal.specs.declared.Refusal.{Refusal}
use Rattle.refusal.specs.Refusals.{number_of}
use Rattle.refusal.specs.Answer.{Answer, given, refused, BOOK, CALENDAR, NEGATIVE, TENOR, NOTPLAIN}
use Rattle.period.specs.Period.{is_negative}
use Rattle.date.specs.Civil.{pick_n}
use Rattle.date.specs.Date.{in_book}
use Rattle.calendar.specs.Open.{calendar_ok}
use Rattle.calendar.specs.Calendar.{tenor_ok}
use Rattle.steps.specs.declared.Rule.{Rule}
use Rattle.steps.specs.declared.Request.{Request}
use Rattle.steps.specs.Rules.{rule_number, is_backward}
use Rattle.steps.specs.Table.{Row, row, first_row, dates_ok}
use Rattle.plain.specs.PlainTests.{is_straight}
use Rattle.plain.specs.Demand.{tenors_before, tenor_count}
use Rattle.plain.specs.Forward.{tenors_after}
use Rattle.plain.specs.Most.{day_or, most_by, most_on_by}
use Rattle.coming.specs.declared.Coming.{Coming}
use Rattle.coming.specs.declared.Coming.TheVariants as coming

-- ---- what is answered: a date that ends no period, a date with the flag of the period that it ends, or that there is no later date
pub data Comes : Type 0 where
  begins : ℕ → Comes
  comes : ℕ → ℕ → Comes
  none_comes : Comes

abbrev pub pick_c : Bool → Comes → Comes → Comes
pick_c true a b = a
pick_c false a b = b

-- ---- the requests that it answers, by their fields: Backward (rule 1) or Forward (2), and straight
unfoldable pub is_direct : Rule → Bool
is_direct rule = eqb (rule_number rule) 1 || eqb (rule_number rule) 2

abbrev pub is_answered : Request → Bool
is_answered q = is_direct q.rule && is_straight q

-- ---- its table, in its order; x is the asked day
unfoldable pub asked_rows : Request → List ℕ → ℕ → List Row
asked_rows q closed x =
    row BOOK (not (in_book x && dates_ok q))
    ∷ row CALENDAR (not (calendar_ok q.mask closed))
    ∷ row NEGATIVE (is_negative q.tenor.length)
    ∷ row TENOR (not (tenor_ok (nat_abs q.tenor.length) q.tenor.unit))
    ∷ row NOTPLAIN (not (is_answered q))
    ∷ []

-- ---- forward, from effective: one tenor more than keep to x, regular, or termination, irregular, where that passes it
unfoldable pub on_or : Answer ℕ → ℕ → Comes
on_or (given d) t = pick_c (leb d t) (comes d 1) (comes t 0)
on_or (refused n) t = comes t 0

unfoldable pub comes_forward : Request → ℕ → Comes
comes_forward q x =
    on_or (tenors_after q (suc (most_on_by q.tenor.unit q.effective.day x / tenor_count q))) q.termination.day

-- ---- backward, from termination: as many tenors as keep after x; irregular if one more passes before effective
unfoldable pub flag_by : Answer ℕ → ℕ → ℕ
flag_by (given d) e = pick_n (leb e d) 1 0
flag_by (refused n) e = 0

abbrev pub tenors_kept : Request → ℕ → ℕ
tenors_kept q x = most_by q.tenor.unit (x + 1) q.termination.day / tenor_count q

unfoldable pub comes_backward : Request → ℕ → Comes
comes_backward q x =
    comes (day_or (tenors_before q (tenors_kept q x))) (flag_by (tenors_before q (suc (tenors_kept q x))) q.effective.day)

-- ---- the whole answer: before effective it is effective, from termination on there is none
abbrev pub between_or : Request → ℕ → Comes → Comes
between_or q x between =
    pick_c (ltb x q.effective.day) (begins q.effective.day) (pick_c (leb q.termination.day x) none_comes between)

abbrev pub comes_between : Request → ℕ → Comes
comes_between q x = pick_c (is_backward q.rule) (comes_backward q x) (comes_forward q x)

unfoldable pub comes_after : Request → ℕ → Comes
comes_after q x = between_or q x (comes_between q x)

unfoldable pub unless_refused : ℕ → Comes → Answer Comes
unless_refused zero a = given a
unless_refused (suc n) a = refused (suc n)

unfoldable pub coming_of : Request → List ℕ → ℕ → Answer Comes
coming_of q closed x = unless_refused (first_row (asked_rows q closed x)) (comes_after q x)

-- ---- what the code's answer means, in every case; a flag is a byte, 1 regular
unfoldable pub said : Coming → Comes
said (coming.Effective d) = begins d.day
said (coming.Ending d regular) = comes d.day (pick_n regular 1 0)
said coming.Nothing = none_comes

unfoldable pub meant : Result Coming Refusal → Answer Comes
meant (Ok c) = given (said c)
meant (Err r) = refused (number_of r)
