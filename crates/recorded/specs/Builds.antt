-- A build from numbers: what is answered, and what the four lent lists then hold.
-- Assumes nothing.
use Rattle.std.specs.Prelude.{ℕ, ◌≡◌, Bool, true, false, cond, List, [], ◌∷◌, eqb, leb, ℤ, pos, neg_ℤ, nat_abs, length}
use Rattle.refusal.specs.Answer.{Answer, given, refused, need, then, ROOM}
use Rattle.steps.specs.declared.Request.{Request}
use Rattle.steps.specs.declared.Built.{Built}
use Rattle.steps.specs.Rules.{rule_number}
use Rattle.steps.specs.Build.{refused_built, answered, over, dates_after, flags_after}
use Rattle.steps.specs.Entries.{Entries, entries_of, paid_of, moved_of, unadjusted_after}
use Rattle.crossing.specs.Answers.{one_number_of}
use Rattle.crossing.specs.Numbers.{unit_number}

-- ---- a build: a list that is too short for the record is 14, before all else, then comes the request's own refusal
abbrev pub fits_record : List ℕ → Bool
fits_record answer = leb 7 (length answer)

unfoldable pub outcome : Answer Request → (closed dates flags unadjusted answer : List ℕ) → Answer Entries
outcome q closed dates flags unadjusted answer =
    need ROOM (fits_record answer) (then q (λ request. entries_of request closed (length dates) (length flags) (length unadjusted)))

unfoldable pub how_many : Entries → ℕ
how_many e = length e.schedule.dates

-- ---- the record: number, count, tries, rule in force, size and unit of the tenor in force, and how far the dates moved at most
unfoldable pub record_of : Answer Request → Answer Entries → Built
record_of (given q) o = answered q (moved_of o) (paid_of o)
record_of (refused n) o = refused_built n

unfoldable pub record_numbers : Built → List ℕ
record_numbers b =
    b.number ∷ b.count ∷ b.tries ∷ rule_number b.rule ∷ nat_abs b.tenor.length ∷ unit_number b.tenor.unit ∷ b.moved ∷ []

unfoldable pub recorded : Bool → Built → List ℕ → List ℕ
recorded true b old = over (record_numbers b) old
recorded false b old = old

-- what the code answers of a record
unfoldable pub count_in : Built → ℤ
count_in b = cond (eqb b.number 0) (pos b.count) (neg_ℤ (pos b.number))

-- the promise of a build
pub record Reported (q : Answer Request) (closed : List ℕ) (r : ℤ) (dates flags unadjusted answer dates' flags' unadjusted' answer' : List ℕ) : Type 0 where
  pub count : r ≡ one_number_of how_many (outcome q closed dates flags unadjusted answer)
  pub dates_after_lem : dates' ≡ dates_after (paid_of (outcome q closed dates flags unadjusted answer)) dates
  pub flags_after_lem : flags' ≡ flags_after (paid_of (outcome q closed dates flags unadjusted answer)) flags
  pub unadjusted_after_lem : unadjusted' ≡ unadjusted_after (outcome q closed dates flags unadjusted answer) unadjusted
  pub answer_after : answer' ≡ recorded (fits_record answer) (record_of q (outcome q closed dates flags unadjusted answer)) answer
