-- A law for each way through the code, over what the calls on the way gave.
-- Assumes nothing.
use Prim.Native.Nat.{ℕ}
use mathlib.Core.Path.{◌≡◌, refl, sym, ◌∙◌}
use mathlib.Core.Bool.{Bool, true, false, not, ◌&&◌}
use mathlib.Core.List.{List, [], ◌∷◌, ◌++◌}
use lib.Dec.{eqb}
use denote.Enum.Declared.{tag_of}
use types.Run.{OneOf}
use borrow.Author.Rules.{rules}
use borrow.Author.Tests.{eq-eqb, ne_eqb, not-true}
use Rattle.std.specs.Prelude.{Result, Ok, Err, IsErr, IsErrAnd}
use Rattle.std.proofs.Common.{ap}
use Rattle.std.proofs.lemmas.Bool.{false≢true}
use Rattle.refusal.specs.declared.Refusal.{Refusal}
use Rattle.refusal.specs.declared.Refusal.TheVariants.{Uneven, Book, Calendar, Negative, Tenor, FirstDate, FirstNotImm, FirstWrongRule, LastDate, LastNotImm, LastWrongRule, MonthEnd, Closed, Room, Collapsed, Code, Request as Unread, Buffer, NotPlain, Batch, Index, Same, Full, Ical, IcalKind, Reversed, ShortEnd}
use Rattle.refusal.specs.Refusals.{number_of}
use Rattle.refusal.specs.Answer.{Answer, given, refused, need, answered, number, CALENDAR}
use Rattle.refusal.specs.Laws.Answers.{both, handed_on, was_refused}
use Rattle.calendar.specs.Open.{calendar_ok}
use Rattle.calendar.specs.Calendar.{check_of}
use Rattle.calendar.specs.Laws.Told.{sound_calendar, refused_calendar}
use Rattle.imm.specs.Imm.{is_imm_date}
use Rattle.steps.specs.declared.Rule.{Rule}
use Rattle.steps.specs.declared.Rule.TheVariants.{ThirdWednesday}
use Rattle.steps.specs.declared.Request.{Request}
use Rattle.steps.specs.Rules.{rules as rule_list, rule_number, one_of, rule_in_force}
use Rattle.steps.specs.Laws.Rules.{agree, keep, keys_of, tags_are, told}
use Rattle.steps.specs.Table.{Row, row, number_or, first_row, is_given, by_range, by_imm, out_of_range, not_imm, wrong_rule, anchor_rows, first_rows, last_rows, rows_under}
use Rattle.steps.specs.Laws.Rows.{numbered, row_holds, row_passed, rows_hold, rows_passed}
use Rattle.steps.specs.contracts.Rule.{the_type}

-- ---- what a step answered, and what is handed on of it
module _ (d : Result (Unit {0}) Refusal) (n : ℕ) (h : number (answered d) ≡ n) where
  pub step_passed : d ≡ Ok tt → 0 ≡ n
  unfolding number
  step_passed e = rw e at h

  pub step_refused : (r : Refusal) → d ≡ Err r → number_of r ≡ n
  unfolding number
  step_refused r e = rw e at h

-- no refusal has number 0
positive : (r : Refusal) → number_of r ≡ 0 → ⊥
positive Uneven e = absurd cc
positive Book e = absurd cc
positive Calendar e = absurd cc
positive Negative e = absurd cc
positive Tenor e = absurd cc
positive FirstDate e = absurd cc
positive FirstNotImm e = absurd cc
positive FirstWrongRule e = absurd cc
positive LastDate e = absurd cc
positive LastNotImm e = absurd cc
positive LastWrongRule e = absurd cc
positive MonthEnd e = absurd cc
positive Closed e = absurd cc
positive Room e = absurd cc
positive Collapsed e = absurd cc
positive Code e = absurd cc
positive Unread e = absurd cc
positive Buffer e = absurd cc
positive NotPlain e = absurd cc
positive Batch e = absurd cc
positive Index e = absurd cc
positive Same e = absurd cc
positive Full e = absurd cc
positive Ical e = absurd cc
positive IcalKind e = absurd cc
positive Reversed e = absurd cc
positive ShortEnd e = absurd cc

pub handed_number : (d : Result (Unit {0}) Refusal) (r : Refusal) → IsErr d × IsErrAnd d (λ k. k ≡ r) → number (answered d) ≡ number_of r
unfolding number
handed_number d r h = ap number (handed_on d r h)

-- rows that a step tests, before others
module _ (d : Result (Unit {0}) Refusal) (rows : List Row) (more : List Row) (w : numbered rows ≡ true) (h : number (answered d) ≡ first_row rows) where
  pub rows_step : (r : ℕ) → d ≡ Ok tt → r ≡ first_row more → r ≡ first_row (rows ++ more)
  rows_step r e k = rows_passed rows w more 0 r (step_passed d _ h e) refl k

  pub rows_handed : (x : Result (Unit {0}) Refusal) (r : Refusal) → IsErr x × IsErrAnd x (λ k. k ≡ r) → d ≡ Err r → number (answered x) ≡ first_row (rows ++ more)
  rows_handed x r i e = handed_number x r i ∙ rows_hold rows w more (number_of r) (step_refused d _ h r e) (positive r)

-- the calendar's row
calendar_number : (r : Refusal) (b : Bool) → ◌≡◌ {A = Answer (Unit {0})} (refused (number_of r)) (need CALENDAR b (given tt)) → b ≡ false → number_of r ≡ CALENDAR
unfolding need
calendar_number r true h e = absurd (false≢true (sym e))
calendar_number r false h e = let q : number_of r ≡ CALENDAR = cc in q

module _ (d : Result (Unit {0}) Refusal) (mask : ℕ) (closed : List ℕ) (h : answered d ≡ check_of mask closed) (more : List Row) where
  pub calendar_step : (r : ℕ) → d ≡ Ok tt → r ≡ first_row more → r ≡ first_row (row CALENDAR (not (calendar_ok mask closed)) ∷ more)
  calendar_step r e k = row_passed CALENDAR _ more r (rw (sound_calendar d mask closed h e)) k

  pub calendar_handed : (x : Result (Unit {0}) Refusal) (r : Refusal) → IsErr x × IsErrAnd x (λ k. k ≡ r) → d ≡ Err r → number (answered x) ≡ first_row (row CALENDAR (not (calendar_ok mask closed)) ∷ more)
  unfolding check_of
  calendar_handed x r i e =
      let b = refused_calendar d mask closed h r e in
      handed_number x r i ∙ (calendar_number r (calendar_ok mask closed) (sym (was_refused d r _ h e)) b ∙ row_holds CALENDAR _ more (rw b))

-- ---- an anchor's rows
-- to which of them a rule belongs, by the arm of the `match`
pub record Belongs (rule : Rule) (range imm : Bool) : Type 0 where
  pub in_range : by_range rule ≡ range
  pub in_imm : by_imm rule ≡ imm

module _ (rule : Rule) where
  pub with_range : OneOf (1 ∷ 2 ∷ []) (tag_of the_type rule) → Belongs rule true false
  unfolding by_range by_imm one_of rule_number rule_list agree keep keys_of tags_are
  with_range k =
      let w = both (by_range rule) (not (by_imm rule)) (sym (told (tag_of the_type) refl (λ a. by_range a && not (by_imm a)) true rule k)) in
      record { in_range = w.0; in_imm = not-true (by_imm rule) w.1 }

  pub with_imm : rule ≡ ThirdWednesday → Belongs rule false true
  unfolding by_range by_imm one_of rule_number
  with_imm e = record { in_range = rw e; in_imm = rw e }

  pub with_neither : OneOf (0 ∷ 3 ∷ 4 ∷ 6 ∷ 7 ∷ 8 ∷ 9 ∷ []) (tag_of the_type rule) → Belongs rule false false
  unfolding by_range by_imm one_of rule_number rule_list agree keep keys_of tags_are
  with_neither k =
      let w = both (not (by_range rule)) (not (by_imm rule)) (sym (told (tag_of the_type) refl (λ a. not (by_range a) && not (by_imm a)) true rule k)) in
      record { in_range = not-true (by_range rule) w.0; in_imm = not-true (by_imm rule) w.1 }

module _ (rule : Rule) (anchor : ℕ) (outside : Bool) (range imm wrong : ℕ) where
  pub anchor_none : anchor ≡ 0 → 0 ≡ first_row (anchor_rows rule anchor outside range imm wrong)
  unfolding first_row number_or anchor_rows out_of_range not_imm wrong_rule is_given
  anchor_none e = simp (eq-eqb anchor 0 e)

  module _ (given : anchor ≡ 0 → ⊥) where
    pub anchor_range : (r : ℕ) → Belongs rule true false → r ≡ number_or outside range 0 → r ≡ first_row (anchor_rows rule anchor outside range imm wrong)
    unfolding first_row number_or anchor_rows out_of_range not_imm wrong_rule is_given
    anchor_range r w h = simp (ne_eqb anchor 0 given, w.in_range, w.in_imm) h

    pub anchor_imm : (r : ℕ) → Belongs rule false true → r ≡ number_or (not (is_imm_date false anchor)) imm 0 → r ≡ first_row (anchor_rows rule anchor outside range imm wrong)
    unfolding first_row number_or anchor_rows out_of_range not_imm wrong_rule is_given
    anchor_imm r w h = simp (ne_eqb anchor 0 given, w.in_range, w.in_imm) h

    pub anchor_wrong : Belongs rule false false → wrong ≡ first_row (anchor_rows rule anchor outside range imm wrong)
    unfolding first_row number_or anchor_rows out_of_range not_imm wrong_rule is_given
    anchor_wrong w = simp (ne_eqb anchor 0 given, w.in_range, w.in_imm)

pub ruleset anchors = (anchor_none, anchor_range, anchor_imm, anchor_wrong, with_range, with_imm, with_neither, rules)

-- ---- a test of the code and the row that it decides
module _ (t b : Bool) (p : t ≡ b) where
  pub test_holds : t ≡ true → b ≡ true
  test_holds e = sym p ∙ e

  pub test_passed : t ≡ false → b ≡ false
  test_passed e = sym p ∙ e

  pub fault_holds : t ≡ false → not b ≡ true
  fault_holds e = ap not (sym p ∙ e)

  pub fault_passed : t ≡ true → not b ≡ false
  fault_passed e = ap not (sym p ∙ e)

module _ (a b : ℕ) where
  pub differ_holds : (a ≡ b → ⊥) → not (eqb a b) ≡ true
  differ_holds e = rw (ne_eqb a b e)

  pub differ_passed : a ≡ b → not (eqb a b) ≡ false
  differ_passed e = rw (eq-eqb a b e)

pub under_rule : (q : Request) (rule : Rule) (r : ℕ) → rule ≡ rule_in_force q → r ≡ first_row (rows_under q rule) → r ≡ first_row (rows_under q (rule_in_force q))
under_rule q rule r e h = rw e at h

pub first_numbered : (q : Request) (rule : Rule) → numbered (first_rows q rule) ≡ true
unfolding numbered first_rows anchor_rows
first_numbered q rule = refl

pub last_numbered : (q : Request) (rule : Rule) → numbered (last_rows q rule) ≡ true
unfolding numbered last_rows anchor_rows
last_numbered q rule = refl
