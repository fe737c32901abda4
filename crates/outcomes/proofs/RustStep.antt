-- Under CDS and CDS2015, where the Rust's step back gives another twentieth, only the first date generated is another.
-- Assumes nothing.
use Prim.Native.Nat.{ℕ}
use Rattle.std.specs.Prelude.{◌≡◌, Bool, List}
use Rattle.std.proofs.Math.Path.{ap}
use Rattle.std.proofs.Common.{sym, ◌∙◌, arith}
use Rattle.std.proofs.Math.Bool.{true, false}
use Rattle.std.proofs.lemmas.Bool.{false≢true}
use borrow.Author.Tests.{eqb-true, not-false}
use Rattle.refusal.specs.Answer.{given, then}
use Rattle.refusal.specs.Laws.Answers.{one_given, then_stepped}
use Rattle.date.specs.Date.{in_book}
use Rattle.steps.specs.declared.Request.{Request}
use Rattle.steps.specs.Rules.{rule_in_force, is_none, is_zero, is_backward, on_twentieths, is_credit, is_old_cds}
use Rattle.steps.specs.Table.{first_row, input_rows, is_given}
use Rattle.steps.specs.Laws.Table.{accepted}
use Rattle.steps.specs.Twentieths.{previous_twentieth}
use Rattle.steps.specs.Generate.{Lists, Made, nothing, onto, opening_by, opening, coming_twentieth, second, opened, forward, generate_by, generate}
use Rattle.outcomes.proofs.Laws.Generating.{passed}
use Rattle.outcomes.specs.Grid.{Gives}
use Rattle.outcomes.proofs.Grid.{previous_from, next_from_lem}
use Rattle.outcomes.specs.RustStep.{rust_previous, rust_opening, rust_forward, rust_generate_by, rust_generate, Far, apart, alone, credit_is, in_force, coming_is, seconds}
use Rattle.outcomes.specs.Laws.FirstDate.{Alike, Behind, Opens, both_gave, forward_alike}

-- an accepted request under CDS or CDS2015 whose two previous twentieths differ
module _ (q : Request) (closed : List ℕ) (dates flags : ℕ) (ok : first_row (input_rows q closed dates flags) ≡ 0) (credit : is_credit (rule_in_force q) ≡ true) (a b : ℕ) (ours : previous_twentieth q.rule q.effective.day ≡ given a) (rusts : rust_previous q.rule q.effective.day ≡ given b) (differ : a ≡ b → ⊥) where
  effective_in : in_book q.effective.day ≡ true
  effective_in = (passed q closed dates flags ok).effective

  asked : rule_in_force q ≡ q.rule
  unfolding rule_in_force
  asked = in_force (is_none q.tenor.length) q.rule credit

  rule_credit : is_credit q.rule ≡ true
  rule_credit = sym (ap is_credit asked) ∙ credit

  far : Far q.effective.day a × Far q.effective.day b
  far =
      let w = apart q.rule q.effective.day effective_in (λ e. differ (one_given _ a b ours (sym e ∙ rusts))) in
      let x = one_given _ w.0.value a w.0.is ours in
      let y = one_given _ w.1.value b w.1.is rusts in
      (omega (arith, x, w.0.has), omega (arith, y, w.1.has))

  -- no date is put before either of them
  pub none_before : (room : ℕ) (l : Lists) → opening q closed room ≡ given l → l ≡ onto a 1 nothing
  unfolding opening opening_by then
  none_before room l h = by (is_credit q.rule) rule_credit h
    where
      by : (c : Bool) → c ≡ true → opening_by c q closed room ≡ given l → l ≡ onto a 1 nothing
      by true e i = alone q closed room a l far.0 (rw ours at i)
      by false e i = absurd (false≢true e)

  pub none_before_rusts : (room : ℕ) (l : Lists) → rust_opening (is_credit q.rule) q closed room ≡ given l → l ≡ onto b 1 nothing
  unfolding rust_opening then
  none_before_rusts room l h = by (is_credit q.rule) rule_credit h
    where
      by : (c : Bool) → c ≡ true → rust_opening c q closed room ≡ given l → l ≡ onto b 1 nothing
      by true e i = alone q closed room b l far.1 (rw rusts at i)
      by false e i = absurd (false≢true e)

  no_first : q.first.day ≡ 0
  unfolding is_given
  no_first = eqb-true q.first.day 0 (not-false _ (sym ((credit_is (rule_in_force q) credit).anchors q.first.day) ∙ (accepted q closed dates flags ok).first_allowed))

  -- the next twentieth is not the effective date, which is none of the grid: the previous one lies before it
  next_off : Gives (λ n. n ≡ q.effective.day → ⊥) (coming_twentieth q.rule q.effective.day)
  next_off =
      let p = previous_from q.rule q.effective.day effective_in in
      let n = next_from_lem q.rule q.effective.day effective_in in
      let e = one_given _ p.value a p.is ours in
      record {
        value = n.value;
        is = coming_is q.rule q.effective.day n.value (sym (ap is_old_cds asked) ∙ (credit_is (rule_in_force q) credit).not_old) n.is;
        has = λ i. omega (arith, far.0, e, i, p.has.greatest n.value n.has.grid (omega arith));
      }

  opened_alike : (room : ℕ) → Alike (Opens a b) (second q.first.day q closed room (onto a 1 nothing)) (second q.first.day q closed room (onto b 1 nothing))
  opened_alike room =
      let n = next_off in
      seconds q closed room a b n.value (sym (ap on_twentieths asked) ∙ (credit_is (rule_in_force q) credit).twentieths) n.is n.has q.first.day no_first

  forward_differs : (room : ℕ) (m n : Made) → forward q closed room ≡ given m → rust_forward q closed room ≡ given n → Behind a b m n
  unfolding forward opened rust_forward
  forward_differs room m n h i =
      let o = then_stepped _ _ m h in
      let p = then_stepped _ _ n i in
      let l = then_stepped (opening q closed room) _ o.value o.from in
      let k = then_stepped (rust_opening (is_credit q.rule) q closed room) _ p.value p.from in
      let x = ap (second q.first.day q closed room) (sym (none_before room l.value l.from)) ∙ l.to in
      let y = ap (second q.first.day q closed room) (sym (none_before_rusts room k.value k.from)) ∙ k.to in
      both_gave m n (forward_alike a b room q closed o.value p.value (both_gave o.value p.value (opened_alike room) x y)) o.to p.to

  -- where both generate, the first date is a here and b there, and all the rest is the same
  pub only_first_differs : (room : ℕ) (m n : Made) → generate q closed room ≡ given m → rust_generate q closed room ≡ given n → Behind a b m n
  unfolding generate generate_by rust_generate rust_generate_by
  only_first_differs room m n h i = by (is_zero (rule_in_force q)) (is_backward (rule_in_force q)) (credit_is (rule_in_force q) credit).not_zero (credit_is (rule_in_force q) credit).not_backward h i
    where
      by : (z c : Bool) → z ≡ false → c ≡ false → generate_by z c q closed room ≡ given m → rust_generate_by z c q closed room ≡ given n → Behind a b m n
      by true c e f h i = absurd (false≢true (sym e))
      by false true e f h i = absurd (false≢true (sym f))
      by false false e f h i = forward_differs room m n h i
