-- Document 01, "Refusal numbers": the answer of a table is the number of the first row that holds, and 0 exactly where none does, for
-- any list of rows; the rows of the input checks are 1 to 12 and 27, in order.
-- Assumes nothing.
use Rattle.std.specs.Prelude.{ℕ, ◌%◌, ◌<◌, ◌≡◌, Bool, true, false, not, ◌&&◌, List, [], ◌∷◌, ◌++◌, eqb, nat_abs}
use Rattle.std.proofs.Math.Path.{refl}
use Rattle.std.proofs.Common.{sym, ap, arith, eqb-true}
use Rattle.std.proofs.lemmas.Bool.{not-false}
use Rattle.refusal.specs.Answer.{UNEVEN, BOOK, CALENDAR, NEGATIVE, TENOR, FIRST_DATE, FIRST_NOT_IMM, FIRST_WRONG_RULE, LAST_DATE, LAST_NOT_IMM, LAST_WRONG_RULE, MONTHEND, SHORTEND}
use Rattle.refusal.specs.Refusals.{pick}
use Rattle.refusal.specs.Laws.Answers.{both}
use Rattle.period.specs.Period.{is_negative}
use Rattle.calendar.specs.Open.{closed_ok, calendar_ok}
use Rattle.calendar.specs.Calendar.{tenor_ok}
use Rattle.steps.specs.declared.Request.{Request}
use Rattle.steps.specs.Rules.{rule_in_force}
use Rattle.steps.specs.Table.{Row, row, number_or, first_row, dates_ok, out_of_range, not_imm, wrong_rule, first_outside, last_outside, monthend_allowed, short_end, anchor_rows, first_rows, last_rows, rows_under, input_rows}
use Rattle.steps.specs.Laws.Rows.{numbered, head_numbered, tail_numbered}

-- ---- in any table
pub data NoneHolds : List Row → Type 0 where
  no_row : NoneHolds []
  nor_row : (n : ℕ) {rows : List Row} → NoneHolds rows → NoneHolds (row n false ∷ rows)

-- a row with that number holds, and none before it does
pub record FirstHolds (rows : List Row) (n : ℕ) : Type 0 where
  pub before : List Row
  pub behind : List Row
  pub splits : rows ≡ before ++ (row n true ∷ behind)
  pub none_before : NoneHolds before

first_behind : {before : List Row} → NoneHolds before → (n : ℕ) (behind : List Row) → first_row (before ++ (row n true ∷ behind)) ≡ n
unfolding first_row number_or
first_behind no_row n behind = refl
first_behind (nor_row k h) n behind = first_behind h n behind

pub first_answers : {rows : List Row} {n : ℕ} → FirstHolds rows n → first_row rows ≡ n
first_answers f = rw f.splits (first_behind f.none_before _ f.behind)

first_go : (n m : ℕ) (b : Bool) (rows : List Row) → (first_row rows ≡ n → FirstHolds rows n) → number_or b m (first_row rows) ≡ n → FirstHolds (row m b ∷ rows) n
unfolding number_or
first_go n m true rows again e = record { before = []; behind = rows; splits = ap (λ (k : ℕ). row k true ∷ rows) e; none_before = no_row }
first_go n m false rows again e =
    let f = again e in
    record {
      before = row m false ∷ f.before;
      behind = f.behind;
      splits = ap (λ (xs : List Row). row m false ∷ xs) f.splits;
      none_before = nor_row m f.none_before;
    }

pub answer_is_first : (rows : List Row) (n : ℕ) → first_row rows ≡ n → (n ≡ 0 → ⊥) → FirstHolds rows n
unfolding first_row
answer_is_first [] n e z = absurd (z (sym e))
answer_is_first (r ∷ rows) n e z = first_go n r.number r.holds rows (λ h. answer_is_first rows n h z) e

pub none_answers : {rows : List Row} → NoneHolds rows → first_row rows ≡ 0
unfolding first_row number_or
none_answers no_row = refl
none_answers (nor_row n h) = none_answers h

none_go : (m : ℕ) (b : Bool) (rows : List Row) → 0 < m → (first_row rows ≡ 0 → NoneHolds rows) → number_or b m (first_row rows) ≡ 0 → NoneHolds (row m b ∷ rows)
unfolding number_or
none_go m true rows p again e = absurd (omega (arith, p, e))
none_go m false rows p again e = nor_row m (again e)

pub answer_is_none : (rows : List Row) → numbered rows ≡ true → first_row rows ≡ 0 → NoneHolds rows
unfolding first_row
answer_is_none [] w e = no_row
answer_is_none (r ∷ rows) w e = none_go r.number r.holds rows (head_numbered r rows w) (answer_is_none rows (tail_numbered r rows w)) e

module _ (rows : List Row) (w : numbered rows ≡ true) where
  -- a refusal is given exactly when its row holds and is the first in the order
  pub refused_exactly : (n : ℕ) → (n ≡ 0 → ⊥) → (first_row rows ≡ n → FirstHolds rows n) × (FirstHolds rows n → first_row rows ≡ n)
  refused_exactly n z = ((λ e. answer_is_first rows n e z), (λ f. first_answers f))

  -- and none is given exactly when no row holds
  pub accepted_exactly : (first_row rows ≡ 0 → NoneHolds rows) × (NoneHolds rows → first_row rows ≡ 0)
  accepted_exactly = ((λ e. answer_is_none rows w e), (λ h. none_answers h))

-- whether the row with a number holds; where there is none, it does not
unfoldable pub holds_in : List Row → ℕ → Bool
holds_in [] n = false
holds_in (r ∷ rows) n = pick (eqb r.number n) r.holds (holds_in rows n)

not_go : (c b : Bool) (m : ℕ) (rows : List Row) (n : ℕ) → 0 < m → (first_row rows ≡ 0 → holds_in rows n ≡ false) → number_or b m (first_row rows) ≡ 0 → pick c b (holds_in rows n) ≡ false
unfolding number_or pick
not_go c true m rows n p again e = absurd (omega (arith, p, e))
not_go true false m rows n p again e = refl
not_go false false m rows n p again e = again e

pub none_holds : (rows : List Row) → numbered rows ≡ true → first_row rows ≡ 0 → (n : ℕ) → holds_in rows n ≡ false
unfolding first_row holds_in
none_holds [] w e n = refl
none_holds (r ∷ rows) w e n =
    not_go (eqb r.number n) r.holds r.number rows n (head_numbered r rows w) (λ h. none_holds rows (tail_numbered r rows w) h n) e

-- ---- in the table of the input checks
unfoldable pub numbers : List Row → List ℕ
numbers [] = []
numbers (r ∷ rows) = r.number ∷ numbers rows

module _ (q : Request) (closed : List ℕ) (dates flags : ℕ) where
  pub in_order : numbers (input_rows q closed dates flags) ≡ 1 ∷ 2 ∷ 3 ∷ 4 ∷ 5 ∷ 6 ∷ 7 ∷ 8 ∷ 9 ∷ 10 ∷ 11 ∷ 12 ∷ 27 ∷ []
  unfolding numbers input_rows rows_under first_rows last_rows anchor_rows
  in_order = refl

  pub input_numbered : numbered (input_rows q closed dates flags) ≡ true
  unfolding numbered input_rows rows_under first_rows last_rows anchor_rows
  input_numbered = refl

-- ---- what the steps may build on
pub record PassedChecks (q : Request) (closed : List ℕ) (dates flags : ℕ) : Type 0 where
  pub even : dates ≡ flags
  pub dates_hold : dates_ok q ≡ true
  pub calendar_holds : calendar_ok q.mask closed ≡ true
  pub closed_holds : closed_ok closed ≡ true
  pub not_negative : is_negative q.tenor.length ≡ false
  pub tenor_holds : tenor_ok (nat_abs q.tenor.length) q.tenor.unit ≡ true
  pub first_in_range : out_of_range (rule_in_force q) q.first.day (first_outside q) ≡ false
  pub first_imm : not_imm (rule_in_force q) q.first.day ≡ false
  pub first_allowed : wrong_rule (rule_in_force q) q.first.day ≡ false
  pub last_in_range : out_of_range (rule_in_force q) q.penultimate.day (last_outside q) ≡ false
  pub last_imm : not_imm (rule_in_force q) q.penultimate.day ≡ false
  pub last_allowed : wrong_rule (rule_in_force q) q.penultimate.day ≡ false
  pub monthend_allowed_lem : (q.monthend && not (monthend_allowed (rule_in_force q))) ≡ false
  pub not_short : short_end q (rule_in_force q) ≡ false

pub calendar_closed : (mask : ℕ) (closed : List ℕ) → calendar_ok mask closed ≡ true → closed_ok closed ≡ true
unfolding calendar_ok
calendar_closed mask closed e = (both (not (eqb (mask % 128) 127)) (closed_ok closed) e).1

pub accepted : (q : Request) (closed : List ℕ) (dates flags : ℕ) → first_row (input_rows q closed dates flags) ≡ 0 → PassedChecks q closed dates flags
unfolding input_rows rows_under first_rows last_rows anchor_rows holds_in pick
accepted q closed dates flags e =
    let no = none_holds (input_rows q closed dates flags) (input_numbered q closed dates flags) e in
    record {
      even = eqb-true dates flags (not-false _ (no UNEVEN));
      dates_hold = not-false _ (no BOOK);
      calendar_holds = not-false _ (no CALENDAR);
      closed_holds = calendar_closed q.mask closed (not-false _ (no CALENDAR));
      not_negative = no NEGATIVE;
      tenor_holds = not-false _ (no TENOR);
      first_in_range = no FIRST_DATE;
      first_imm = no FIRST_NOT_IMM;
      first_allowed = no FIRST_WRONG_RULE;
      last_in_range = no LAST_DATE;
      last_imm = no LAST_NOT_IMM;
      last_allowed = no LAST_WRONG_RULE;
      monthend_allowed_lem = no MONTHEND;
      not_short = no SHORTEND;
    }
