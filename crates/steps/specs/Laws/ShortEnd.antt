-- Request L14: what refusal 27 is given for, that nothing else moved with it, and what end of month is left with.
-- Assumes nothing.
use Rattle.std.specs.Prelude.{ℕ, zero, suc, ◌≡◌, Bool, not, ◌&&◌, ◌⊎◌, eqb, ℤ, pos, negsuc, take}
use Rattle.std.proofs.Math.Path.{refl, ap}
use Rattle.std.proofs.Common.{sym, ◌∙◌, arith, ne_eqb, lt-ltb}
use Rattle.std.proofs.Math.Bool.{true, false, false≢true}
use mathlib.Core.List.{List, [], ◌∷◌, ◌++◌}
use Rattle.std.proofs.Math.Logic.{inl, inr}
use Rattle.std.specs.Int.Signed.{lt_z}
use Rattle.std.proofs.lemmas.Bool.{not-true, eqb-false}
use Rattle.refusal.specs.Answer.{Answer, SHORTEND}
use Rattle.refusal.specs.Laws.Answers.{both}
use Rattle.period.specs.declared.Unit.{Unit as TimeUnit}
use Rattle.period.specs.declared.Unit.TheVariants.{Days, Weeks, Months, Years}
use Rattle.period.specs.Period.{is_negative, is_positive}
use Rattle.steps.specs.declared.Rule.{Rule}
use Rattle.steps.specs.declared.Rule.TheVariants.{Zero}
use Rattle.steps.specs.declared.Request.{Request}
use Rattle.steps.specs.Rules.{rule_number, one_of, is_zero, is_none, rule_under, rule_in_force}
use Rattle.steps.specs.Laws.Rules.{only}
use Rattle.steps.specs.Table.{Row, row, number_or, first_row, in_days, short_end, anchor_rows, first_rows, last_rows, rows_under, input_rows}
use Rattle.steps.specs.Laws.Rows.{numbered, row_holds, rows_passed}
use Rattle.steps.specs.Laws.Table.{PassedChecks, accepted}
use Rattle.steps.specs.Build.{Schedule, steps_of, admitted, build_of}

-- ---- a row behind any others, of which none has its number
unfoldable pub without : ℕ → List Row → Bool
without n [] = true
without n (r ∷ rows) = not (eqb r.number n) && without n rows

module _ (n : ℕ) where
  alone : (b : Bool) → (n ≡ 0 → ⊥) → number_or b n 0 ≡ n → b ≡ true
  unfolding number_or
  alone true z e = refl
  alone false z e = absurd (z (sym e))

  reached_by : (b c : Bool) (m x y : ℕ) → not (eqb m n) ≡ true → (y ≡ n → (x ≡ 0) × (b ≡ true)) → number_or c m y ≡ n → (number_or c m x ≡ 0) × (b ≡ true)
  unfolding number_or
  reached_by b true m x y w again e = absurd (eqb-false m n (not-true (eqb m n) w) e)
  reached_by b false m x y w again e = again e

  reached : (b : Bool) (rows : List Row) → (n ≡ 0 → ⊥) → without n rows ≡ true → first_row (rows ++ (row n b ∷ [])) ≡ n → (first_row rows ≡ 0) × (b ≡ true)
  unfolding first_row without
  reached b [] z w e = (refl, alone b z e)
  reached b (r ∷ rows) z w e =
      let p = both (not (eqb r.number n)) _ w in
      reached_by b r.holds r.number (first_row rows) (first_row (rows ++ (row n b ∷ []))) p.0 (λ h. reached b rows z p.1 h) e

  unreached : (b : Bool) (rows : List Row) → b ≡ false → first_row (rows ++ (row n b ∷ [])) ≡ first_row rows
  unfolding first_row number_or
  unreached b [] e = rw e
  unreached b (r ∷ rows) e = ap (number_or r.holds r.number) (unreached b rows e)

-- ---- the table as it was: the rows 1 to 12
unfoldable pub former_rows : Request → List ℕ → ℕ → ℕ → List Row
former_rows q closed dates flags = take 12 (input_rows q closed dates flags)

unfoldable pub former_build : Request → List ℕ → ℕ → ℕ → Answer Schedule
former_build q closed dates flags = admitted (first_row (former_rows q closed dates flags)) (steps_of q closed) dates

-- end of month on, a positive tenor in days or weeks, a rule other than Zero, and none of 1 to 12
pub record ShortEnd (q : Request) (closed : List ℕ) (dates flags : ℕ) : Type 0 where
  pub passes : first_row (former_rows q closed dates flags) ≡ 0
  pub monthend : q.monthend ≡ true
  pub positive : lt_z (pos 0) q.tenor.length ≡ true
  pub unit : (q.tenor.unit ≡ Days) ⊎ (q.tenor.unit ≡ Weeks)
  pub rule : q.rule ≡ Zero → ⊥

some_days : (u : TimeUnit) → in_days u ≡ true → (u ≡ Days) ⊎ (u ≡ Weeks)
unfolding in_days
some_days Days e = inl refl
some_days Weeks e = inr refl
some_days Months e = absurd (false≢true e)
some_days Years e = absurd (false≢true e)

in_days_lem : (u : TimeUnit) → (u ≡ Days) ⊎ (u ≡ Weeks) → in_days u ≡ true
unfolding in_days
in_days_lem u (inl e) = rw e
in_days_lem u (inr e) = rw e

-- with a positive tenor the rule asked for is in force
none_not : (z : ℤ) → lt_z (pos 0) z ≡ true → is_none z ≡ false
unfolding is_none
none_not (pos zero) e = absurd (false≢true e)
none_not (pos (suc n)) e = ne_eqb (suc n) 0 (λ z. omega (arith, z))
none_not (negsuc n) e = absurd (false≢true e)

rule_asked : (q : Request) → lt_z (pos 0) q.tenor.length ≡ true → rule_in_force q ≡ q.rule
unfolding rule_in_force rule_under
rule_asked q e = rw (none_not q.tenor.length e)

zero_is : (rule : Rule) → rule ≡ Zero → is_zero rule ≡ true
unfolding is_zero one_of rule_number
zero_is rule e = rw e

not_zero : (b : Bool) → (b ≡ true → ⊥) → not b ≡ true
not_zero true h = absurd (h refl)
not_zero false h = refl

-- and without one, Zero
some_none : (z : ℤ) → is_negative z ≡ false → lt_z (pos 0) z ≡ false → is_none z ≡ true
unfolding is_none
some_none (pos zero) n e = refl
some_none (pos (suc n)) h e = absurd (false≢true (sym e ∙ lt-ltb 0 (suc n) (omega arith)))
some_none (negsuc n) h e = absurd (false≢true (sym h))

forced : (q : Request) → is_none q.tenor.length ≡ true → rule_in_force q ≡ Zero
unfolding rule_in_force rule_under
forced q e = rw e

in_months : (u : TimeUnit) → in_days u ≡ false → (u ≡ Months) ⊎ (u ≡ Years)
unfolding in_days
in_months Days e = absurd (false≢true (sym e))
in_months Weeks e = absurd (false≢true (sym e))
in_months Months e = inl refl
in_months Years e = inr refl

all_hold : (m p d z : Bool) → m ≡ true → p ≡ true → d ≡ true → not z ≡ true → (m && ((p && d) && not z)) ≡ true
all_hold m p d z e f g h = rw (e, f, g) h

-- which of four tests fails where they do not all hold, and the first does
fails_of : (m p d z : Bool) → m ≡ true → (m && ((p && d) && not z)) ≡ false → (p ≡ false) ⊎ ((d ≡ false) ⊎ (z ≡ true))
fails_of true false d z m e = inl refl
fails_of true true false z m e = inr (inl refl)
fails_of true true true true m e = inr (inr refl)
fails_of true true true false m e = absurd (false≢true (sym e))
fails_of false p d z m e = absurd (false≢true m)

module _ (q : Request) (closed : List ℕ) (dates flags : ℕ) where
  table_is : input_rows q closed dates flags ≡ former_rows q closed dates flags ++ (row SHORTEND (short_end q (rule_in_force q)) ∷ [])
  unfolding former_rows input_rows rows_under first_rows last_rows anchor_rows
  table_is = refl

  others : without SHORTEND (former_rows q closed dates flags) ≡ true
  unfolding without former_rows input_rows rows_under first_rows last_rows anchor_rows
  others = refl

  some_numbers : numbered (former_rows q closed dates flags) ≡ true
  unfolding numbered former_rows input_rows rows_under first_rows last_rows anchor_rows
  some_numbers = refl

  told : first_row (input_rows q closed dates flags) ≡ SHORTEND → ShortEnd q closed dates flags
  unfolding short_end is_zero
  told e =
      let r = reached SHORTEND (short_end q (rule_in_force q)) (former_rows q closed dates flags) (λ z. omega (arith, z)) others (rw table_is at e) in
      let m = both q.monthend _ r.1 in
      let t = both (is_positive q.tenor.length && in_days q.tenor.unit) _ m.1 in
      let l = both (is_positive q.tenor.length) _ t.0 in
      record {
        passes = r.0;
        monthend = m.0;
        positive = l.0;
        unit = some_days q.tenor.unit l.1;
        rule = λ z. false≢true (sym (not-true (is_zero (rule_in_force q)) t.1) ∙ zero_is (rule_in_force q) (rule_asked q l.0 ∙ z));
      }

  row_so : ShortEnd q closed dates flags → short_end q (rule_in_force q) ≡ true
  unfolding short_end is_zero
  row_so s =
      all_hold q.monthend (is_positive q.tenor.length) (in_days q.tenor.unit) (is_zero (rule_in_force q)) s.monthend s.positive (in_days_lem q.tenor.unit s.unit)
      (not_zero (is_zero (rule_in_force q)) (λ z. s.rule (sym (rule_asked q s.positive) ∙ only (rule_in_force q) Zero z)))

  given_so : ShortEnd q closed dates flags → first_row (input_rows q closed dates flags) ≡ SHORTEND
  given_so s =
      rw table_is
      (sym (rows_passed (former_rows q closed dates flags) some_numbers _ 0 SHORTEND (sym s.passes) refl (row_holds SHORTEND _ [] (row_so s))))

  -- 27 is given exactly so
  pub shortend_exactly : (first_row (input_rows q closed dates flags) ≡ SHORTEND → ShortEnd q closed dates flags) × (ShortEnd q closed dates flags → first_row (input_rows q closed dates flags) ≡ SHORTEND)
  shortend_exactly = (told, given_so)

  -- where its row does not hold, a build is what it was
  pub nothing_else : short_end q (rule_in_force q) ≡ false → build_of q closed dates flags ≡ former_build q closed dates flags
  unfolding build_of former_build
  nothing_else e =
      ap (λ (n : ℕ). admitted n (steps_of q closed) dates) (rw table_is (unreached SHORTEND _ (former_rows q closed dates flags) e))

  -- accepted with end of month on: Zero is in force, or the tenor counts months
  pub month_ends_left : first_row (input_rows q closed dates flags) ≡ 0 → q.monthend ≡ true → (rule_in_force q ≡ Zero) ⊎ ((q.tenor.unit ≡ Months) ⊎ (q.tenor.unit ≡ Years))
  unfolding short_end is_zero
  month_ends_left e m =
      let a = accepted q closed dates flags e in
      by a (fails_of q.monthend (is_positive q.tenor.length) (in_days q.tenor.unit) (is_zero (rule_in_force q)) m a.not_short)
    where
      by : PassedChecks q closed dates flags → (is_positive q.tenor.length ≡ false) ⊎ ((in_days q.tenor.unit ≡ false) ⊎ (is_zero (rule_in_force q) ≡ true)) → (rule_in_force q ≡ Zero) ⊎ ((q.tenor.unit ≡ Months) ⊎ (q.tenor.unit ≡ Years))
      by a (inl p) = inl (forced q (some_none q.tenor.length a.not_negative p))
      by a (inr (inl d)) = inr (in_months q.tenor.unit d)
      by a (inr (inr z)) = inl (only (rule_in_force q) Zero z)
