-- The previous twentieth is the greatest of the rule's grid on or before a date, and the next the least on or after it: of every rule and every day.
-- Assumes nothing.
use Rattle.std.specs.Prelude.{ℕ, ◌+◌, ◌-◌, ◌%◌, ◌≡◌, Bool, ltb}
use Rattle.std.proofs.Math.Path.{refl, sym}
use Rattle.std.proofs.Common.{ap, ◌∙◌, arith, le_antisymm}
use Rattle.std.proofs.Math.Bool.{true, false}
use Rattle.std.proofs.lemmas.Bool.{false≢true}
use Rattle.refusal.specs.Answer.{Answer, given, refused, need, BOOK}
use Rattle.refusal.specs.Laws.Answers.{fails, never_both}
use Rattle.date.specs.Civil.{fields_of}
use Rattle.date.specs.Date.{in_book, month_index, step}
use Rattle.steps.specs.declared.Rule.{Rule}
use Rattle.steps.specs.Rules.{in_imm_months}
use Rattle.steps.specs.Twentieths.{moved_if, skip_of, to_imm_month, next_twentieth, previous_twentieth, next_twentieth_of, previous_twentieth_of}
use Rattle.outcomes.specs.Grid.{Grid, Latest, Earliest, Gives, gives, stepped, weaker, IsTwentieth, twentieth_month, twentieth_le, shift, Last, First, start, one_on, reached}

-- ---- the grid's own
on_grid : {rule : Rule} {u : ℕ} → Grid rule u → IsTwentieth (month_index u) u
on_grid g = record { span = g.span; index = refl; day = g.day }

of_quarter : {rule : Rule} {u : ℕ} → Grid rule u → in_imm_months rule ≡ true → (month_index u + 1) % 3 ≡ 0
of_quarter {rule} {u} g e = sym (twentieth_month (on_grid g)) ∙ g.month e

any_month : {rule : Rule} {s t : ℕ} → in_imm_months rule ≡ false → IsTwentieth s t → Grid rule t
any_month {rule} {s} {t} e w = record { span = w.span; day = w.day; month = λ i. absurd (false≢true (sym e ∙ i)) }

quarter : {rule : Rule} {s t : ℕ} → (s + 1) % 3 ≡ 0 → IsTwentieth s t → Grid rule t
quarter {rule} {s} {t} e w = record { span = w.span; day = w.day; month = λ i. twentieth_month w ∙ e }

-- ---- back or on to an IMM month
module _ (rule : Rule) (d t : ℕ) where
  back_to : Last d t → Gives (Latest rule d) (to_imm_month rule true t)
  unfolding to_imm_month moved_if skip_of step
  back_to l = by (in_imm_months rule) refl
    where
      by : (c : Bool) → in_imm_months rule ≡ c → Gives (Latest rule d) (moved_if c true (skip_of true (fields_of t).month) t)
      by true e =
          let k : (fields_of t).month % 3 ≡ (month_index t + 1) % 3 = twentieth_month l.own in
          weaker (shift true ((fields_of t).month % 3) (month_index t) t l.own (omega (arith, l.low)) (omega (arith, l.high))) (λ r v. record {
            grid = quarter (omega (arith, l.low)) v;
            before = omega (arith, l.upto, twentieth_le v l.own (omega arith));
            greatest = λ u g h. twentieth_le (on_grid g) v (omega (arith, of_quarter g e, l.most (month_index u) u (on_grid g) h));
          })
      by false e = gives t (record { grid = any_month e l.own; before = l.upto; greatest = λ u g h. twentieth_le (on_grid g) l.own (l.most (month_index u) u (on_grid g) h) })

  on_to : First d t → Gives (Earliest rule d) (to_imm_month rule false t)
  unfolding to_imm_month moved_if skip_of step
  on_to l = by (in_imm_months rule) refl
    where
      by : (c : Bool) → in_imm_months rule ≡ c → Gives (Earliest rule d) (moved_if c false (skip_of false (fields_of t).month) t)
      by true e =
          let k : (fields_of t).month % 3 ≡ (month_index t + 1) % 3 = twentieth_month l.own in
          weaker (shift false ((3 - (fields_of t).month % 3) % 3) (month_index t) t l.own (omega (arith, l.low)) (omega (arith, l.high))) (λ r v. record {
            grid = quarter (omega arith) v;
            after = omega (arith, l.after, twentieth_le l.own v (omega arith));
            least = λ u g h. twentieth_le v (on_grid g) (omega (arith, of_quarter g e, l.fewest (month_index u) u (on_grid g) h));
          })
      by false e = gives t (record { grid = any_month e l.own; after = l.after; least = λ u g h. twentieth_le l.own (on_grid g) (l.fewest (month_index u) u (on_grid g) h) })

-- ---- the steps of a build, and the public functions
module _ (rule : Rule) (d : ℕ) where
  past_book : {P : ℕ → Type 0} {x : Answer ℕ} → in_book d ≡ true → Gives P x → Gives P (need BOOK (in_book d) x)
  unfolding need
  past_book b g = rw b g

  module _ (b : in_book d ≡ true) where
    pub previous_from : Gives (Latest rule d) (previous_twentieth rule d)
    unfolding previous_twentieth
    previous_from = let r = reached d b in rw (r.onward (to_imm_month rule true)) (back_to rule d r.twentieth r.last)

    pub next_from_lem : Gives (Earliest rule d) (next_twentieth rule d)
    unfolding next_twentieth
    next_from_lem = stepped (start d b) (λ t w. stepped (one_on d b t w (ltb t d) refl) (λ r l. on_to rule d r l))

    pub previous_latest : Gives (Latest rule d) (previous_twentieth_of rule d)
    unfolding previous_twentieth_of
    previous_latest = past_book b previous_from

    pub next_earliest : Gives (Earliest rule d) (next_twentieth_of rule d)
    unfolding next_twentieth_of
    next_earliest = past_book b next_from_lem

    -- a date of the grid is its own on both sides
    pub grid_itself : Grid rule d → (previous_twentieth_of rule d ≡ given d) × (next_twentieth_of rule d ≡ given d)
    grid_itself g =
        let p = previous_latest in
        let n = next_earliest in
        (p.is ∙ ap given (le_antisymm p.has.before (p.has.greatest d g (omega arith))), n.is ∙ ap given (le_antisymm (n.has.least d g (omega arith)) n.has.after))

  -- refused 2 exactly if the date is outside the book
  pub previous_outside : in_book d ≡ false → previous_twentieth_of rule d ≡ refused BOOK
  unfolding previous_twentieth_of
  previous_outside e = sym (fails BOOK (in_book d) _ e)

  pub previous_refused : (n : ℕ) → previous_twentieth_of rule d ≡ refused n → (in_book d ≡ false) × (n ≡ BOOK)
  previous_refused n h = by (in_book d) refl
    where
      by : (c : Bool) → in_book d ≡ c → (in_book d ≡ false) × (n ≡ BOOK)
      by true e = let p = previous_latest e in absurd (never_both _ p.value n p.is h)
      by false e = (e, let q = previous_outside e in cc)
