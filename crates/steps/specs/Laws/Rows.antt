-- Rows of any table: the first row that holds, by the rows before it. No number of a refusal is 0, which is a computed test of the
-- numbers alone.
-- Assumes nothing.
use Rattle.std.specs.Prelude.{ℕ, ◌<◌, ◌≡◌, refl, Bool, true, false, ◌&&◌, List, [], ◌∷◌, ◌++◌, ltb}
use Rattle.std.proofs.Common.{sym, ◌∙◌, arith}
use borrow.Author.Tests.{ltb-true}
use Rattle.refusal.specs.Laws.Answers.{both}
use Rattle.steps.specs.Table.{Row, row, number_or, first_row}

unfoldable pub numbered : List Row → Bool
numbered [] = true
numbered (r ∷ rows) = ltb 0 r.number && numbered rows

module _ (r : Row) (rows : List Row) (w : numbered (r ∷ rows) ≡ true) where
  pub head_numbered : 0 < r.number
  unfolding numbered
  head_numbered = ltb-true 0 r.number (both (ltb 0 r.number) _ w).0

  pub tail_numbered : numbered rows ≡ true
  unfolding numbered
  tail_numbered = (both (ltb 0 r.number) _ w).1

-- ---- one row
module _ (n : ℕ) (b : Bool) (rows : List Row) where
  -- a row that holds is the answer
  pub row_holds : b ≡ true → n ≡ first_row (row n b ∷ rows)
  unfolding first_row number_or
  row_holds e = rw e

  -- one that does not is passed
  pub row_passed : (r : ℕ) → b ≡ false → r ≡ first_row rows → r ≡ first_row (row n b ∷ rows)
  unfolding first_row number_or
  row_passed r e h = rw e h

pub no_rows : 0 ≡ first_row []
unfolding first_row
no_rows = refl

-- ---- several rows
hold_on : (b : Bool) (n r x y : ℕ) → (r ≡ x → r ≡ y) → r ≡ number_or b n x → r ≡ number_or b n y
unfolding number_or
hold_on true n r x y f h = h
hold_on false n r x y f h = f h

pass_on : (b : Bool) (n r x y : ℕ) → 0 < n → (x ≡ 0 → r ≡ y) → number_or b n x ≡ 0 → r ≡ number_or b n y
unfolding number_or
pass_on true n r x y p f h = absurd (omega (arith, p, h))
pass_on false n r x y p f h = f h

-- rows of which one holds are the answer, whatever stands behind them
pub rows_hold : (rows : List Row) → numbered rows ≡ true → (more : List Row) (r : ℕ) → r ≡ first_row rows → (r ≡ 0 → ⊥) → r ≡ first_row (rows ++ more)
unfolding first_row
rows_hold [] w more r h z = absurd (z h)
rows_hold (row ∷ rows) w more r h z =
    hold_on row.holds row.number r _ _ (λ e. rows_hold rows (tail_numbered row rows w) more r e z) h

-- rows of which none holds are passed
pub rows_passed : (rows : List Row) → numbered rows ≡ true → (more : List Row) (x r : ℕ) → x ≡ first_row rows → x ≡ 0 → r ≡ first_row more → r ≡ first_row (rows ++ more)
unfolding first_row
rows_passed [] w more x r h z k = k
rows_passed (row ∷ rows) w more x r h z k =
    pass_on row.holds row.number r _ _ (head_numbered row rows w) (λ e. rows_passed rows (tail_numbered row rows w) more 0 r (sym e) refl k) (sym h ∙ z)
