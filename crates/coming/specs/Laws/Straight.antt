-- The requests that the question answers are demand 3's under Backward and its mirror's under Forward, and what the rows leave of them.
-- Assumes nothing.
use Rattle.std.specs.Prelude.{ℕ, ◌≡◌, refl, true, false, ◌⊎◌, List, [], ◌∷◌, ◌++◌}
use Rattle.std.proofs.Common.{subst, inl, inr, ⊎_elim, arith}
use Rattle.std.proofs.lemmas.Bool.{false≢true, not-false}
use Rattle.refusal.specs.Laws.Answers.{both}
use Rattle.date.specs.Date.{in_book}
use Rattle.steps.specs.declared.Rule.{Rule}
use Rattle.steps.specs.declared.Rule.TheVariants.{Zero, Backward, Forward, Twentieth, TwentiethIMM, ThirdWednesday, ThirdWednesdayInclusive, OldCDS, CDS, CDS2015}
use Rattle.steps.specs.declared.Request.{Request}
use Rattle.steps.specs.Rules.{rule_number}
use Rattle.steps.specs.Table.{Row, row, dates_ok}
use Rattle.steps.specs.Laws.Rows.{numbered, head_numbered, tail_numbered}
use Rattle.steps.specs.Laws.Table.{NoneHolds, no_row, nor_row, FirstHolds}
use Rattle.plain.specs.PlainTests.{is_straight}
use Rattle.plain.specs.Laws.Straight.{straight_plain, straight_forward}
use Rattle.plain.specs.Demand.{Plain, Passes}
use Rattle.plain.specs.Forward.{PlainForward}
use Rattle.coming.specs.Coming.{is_direct, is_answered, asked_rows}

pub data Straight (q : Request) : Type 0 where
  backward : Plain q → Straight q
  forward : PlainForward q → Straight q

direct : (rule : Rule) → is_direct rule ≡ true → (rule ≡ Backward) ⊎ (rule ≡ Forward)
unfolding is_direct rule_number
direct Zero e = absurd (false≢true e)
direct Backward e = inl refl
direct Forward e = inr refl
direct Twentieth e = absurd (false≢true e)
direct TwentiethIMM e = absurd (false≢true e)
direct ThirdWednesday e = absurd (false≢true e)
direct ThirdWednesdayInclusive e = absurd (false≢true e)
direct OldCDS e = absurd (false≢true e)
direct CDS e = absurd (false≢true e)
direct CDS2015 e = absurd (false≢true e)

pub straight : (q : Request) → is_answered q ≡ true → Straight q
straight q h =
    let a = both (is_direct q.rule) (is_straight q) h in
    ⊎_elim
    (λ (r : q.rule ≡ Backward). backward (straight_plain q r a.1))
    (λ (r : q.rule ≡ Forward). forward (straight_forward q r a.1))
    (direct q.rule a.0)

-- ---- what the rows leave
abbrev Fails : List Row → Type 0
Fails [] = Unit {0}
Fails (r ∷ rows) = (r.holds ≡ false) × Fails rows

fails : {rows : List Row} → NoneHolds rows → Fails rows
fails no_row = tt
fails (nor_row n h) = (refl, fails h)

pub record Answerable (q : Request) (closed : List ℕ) (x : ℕ) : Type 0 where
  pub day_in_book : in_book x ≡ true
  pub passes : Passes q closed 0 0
  pub straight : Straight q

pub answerable : (q : Request) (closed : List ℕ) (x : ℕ) → NoneHolds (asked_rows q closed x) → Answerable q closed x
unfolding asked_rows dates_ok
answerable q closed x h =
    let f = fails h in
    let b = both (in_book x) (dates_ok q) (not-false _ f.0) in
    let e = both (in_book q.effective.day) _ b.1 in
    let t = both (in_book q.termination.day) _ e.1 in
    record {
      day_in_book = b.0;
      passes = record {
        even = refl;
        effective_in_book = e.0;
        termination_in_book = t.0;
        calendar_sound = not-false _ f.1.0;
        tenor_short = not-false _ f.1.1.1.0;
      };
      straight = straight q (not-false _ f.1.1.1.1.0);
    }

pub asked_numbered : (q : Request) (closed : List ℕ) (x : ℕ) → numbered (asked_rows q closed x) ≡ true
unfolding numbered asked_rows
asked_numbered q closed x = refl

-- the first row that holds has the number of a refusal
numbered_at : (before behind : List Row) (n : ℕ) → numbered (before ++ (row n true ∷ behind)) ≡ true → n ≡ 0 → ⊥
numbered_at [] behind n w z = omega (arith, head_numbered (row n true) behind w, z)
numbered_at (r ∷ before) behind n w z = numbered_at before behind n (tail_numbered r (before ++ (row n true ∷ behind)) w) z

pub first_not_zero : {rows : List Row} {n : ℕ} → numbered rows ≡ true → FirstHolds rows n → n ≡ 0 → ⊥
first_not_zero {rows} {n} w f z = numbered_at f.before f.behind n (subst (λ (xs : List Row). numbered xs ≡ true) f.splits w) z
