-- What the table of input checks comes to for a plain request.
-- Assumes nothing.
use Rattle.std.specs.Prelude.{ℕ, ◌≡◌, refl, Bool, true, false, not, List, [], ◌∷◌, eqb, ℤ, pos, negsuc}
use Rattle.std.proofs.lemmas.Bool.{false≢true}
use Rattle.std.specs.Int.Signed.{lt_z}
use Rattle.std.proofs.Common.{eq-eqb}
use Rattle.refusal.specs.Laws.Answers.{both}
use Rattle.period.specs.Period.{is_negative}
use Rattle.date.specs.Date.{in_book}
use Rattle.steps.specs.declared.Rule.{Rule}
use Rattle.steps.specs.declared.Request.{Request}
use Rattle.steps.specs.Rules.{rule_in_force}
use Rattle.steps.specs.Table.{Row, row, number_or, first_row, is_given, anchor_ok, dates_ok, out_of_range, not_imm, wrong_rule, short_end, anchor_rows, first_rows, last_rows, rows_under, input_rows}
use Rattle.steps.specs.Laws.Table as table
use Rattle.plain.specs.Demand.{Plain, Passes, ChecksAre}

pub not_negative : (z : ℤ) → lt_z (pos 0) z ≡ true → is_negative z ≡ false
not_negative (pos n) h = refl
not_negative (negsuc n) h = absurd (false≢true h)

-- a row that does not hold leaves it to the rows behind it
next : (n : ℕ) (b : Bool) (rows : List Row) → b ≡ false → first_row rows ≡ 0 → first_row (row n b ∷ rows) ≡ 0
unfolding first_row number_or
next n b rows e h = rw e h

no_rows : first_row [] ≡ 0
unfolding first_row
no_rows = refl

-- what is not refused passes, plain or not
pub passed : (q : Request) (closed : List ℕ) (dates flags : ℕ) → first_row (input_rows q closed dates flags) ≡ 0 → Passes q closed dates flags
unfolding dates_ok
passed q closed dates flags h =
    let a = table.accepted q closed dates flags h in
    let e = both (in_book q.effective.day) _ a.dates_hold in
    let t = both (in_book q.termination.day) _ e.1 in
    record {
      even = a.even;
      effective_in_book = e.0;
      termination_in_book = t.0;
      calendar_sound = a.calendar_holds;
      tenor_short = a.tenor_holds;
    }

module _ (q : Request) (closed : List ℕ) (dates flags : ℕ) (p : Plain q) where
  even_row : dates ≡ flags → not (eqb dates flags) ≡ false
  even_row h = rw (eq-eqb dates flags h)

  dates_row : in_book q.effective.day ≡ true → in_book q.termination.day ≡ true → not (dates_ok q) ≡ false
  unfolding dates_ok anchor_ok
  dates_row e t = rw (e, t, p.no_first, p.no_penultimate)

  range_row : (rule : Rule) (anchor : ℕ) (outside : Bool) → anchor ≡ 0 → out_of_range rule anchor outside ≡ false
  unfolding out_of_range is_given
  range_row rule anchor outside e = rw e

  imm_row : (rule : Rule) (anchor : ℕ) → anchor ≡ 0 → not_imm rule anchor ≡ false
  unfolding not_imm is_given
  imm_row rule anchor e = rw e

  rule_row : (rule : Rule) (anchor : ℕ) → anchor ≡ 0 → wrong_rule rule anchor ≡ false
  unfolding wrong_rule is_given
  rule_row rule anchor e = rw e

  short_row : short_end q (rule_in_force q) ≡ false
  unfolding short_end
  short_row = rw p.no_month_end

  passes : Passes q closed dates flags → first_row (input_rows q closed dates flags) ≡ 0
  unfolding input_rows rows_under first_rows last_rows anchor_rows
  passes c =
      next _ _ _ (even_row c.even)
      (next _ _ _ (dates_row c.effective_in_book c.termination_in_book)
      (next _ _ _ (rw c.calendar_sound)
      (next _ _ _ (not_negative q.tenor.length p.positive)
      (next _ _ _ (rw c.tenor_short)
      (next _ _ _ (range_row _ q.first.day _ p.no_first)
      (next _ _ _ (imm_row _ q.first.day p.no_first)
      (next _ _ _ (rule_row _ q.first.day p.no_first)
      (next _ _ _ (range_row _ q.penultimate.day _ p.no_penultimate)
      (next _ _ _ (imm_row _ q.penultimate.day p.no_penultimate)
      (next _ _ _ (rule_row _ q.penultimate.day p.no_penultimate)
      (next _ _ _ (rw p.no_month_end)
      (next _ _ _ short_row no_rows))))))))))))

pub checks_are : ChecksAre
checks_are q closed dates flags p = (passed q closed dates flags, passes q closed dates flags p)
