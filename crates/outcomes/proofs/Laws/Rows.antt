-- A build that is refused is refused with the first row of the table that holds, or late; and a row's number is one of the checks'.
-- Assumes nothing.
use Prim.Native.Nat.{ℕ, zero, suc, ◌≤◌, min}
use Rattle.std.specs.Prelude.{◌≡◌, Bool, true, false, ◌&&◌, ◌||◌, List, [], ◌∷◌, eqb, leb}
use Rattle.std.proofs.Math.Path.{refl, ap}
use Rattle.std.proofs.Common.{sym, subst, ◌∙◌, arith}
use Rattle.refusal.specs.Answer.{refused, number, MONTHEND, CLOSED, COLLAPSED, SHORTEND}
use Rattle.refusal.specs.Laws.Answers.{both}
use Rattle.steps.specs.declared.Request.{Request}
use Rattle.steps.specs.Table.{Row, number_or, first_row, input_rows}
use Rattle.steps.specs.Laws.Table.{numbers, in_order}
use Rattle.steps.specs.Build.{steps_of, admitted, build_of}
use Rattle.outcomes.specs.Late.{Late, by_search, by_room, by_merge, Fine, Any, gives, steps}
use Rattle.outcomes.specs.Searches.{Searches, for_convention, for_terminal, for_month_end}
use Rattle.outcomes.specs.Laws.Finished.{finish_fine}
use Rattle.outcomes.proofs.Laws.Generating.{Passed, passed, generate_fine}
use Rattle.outcomes.specs.NoLimit.{steps_in, steps_cut}

-- ---- a test that each number of a table passes is passed by that of the first row that holds
unfoldable pub each_number : (ℕ → Bool) → List ℕ → Bool
each_number p [] = true
each_number p (n ∷ ns) = p n && each_number p ns

first_go : (p : ℕ → Bool) (b : Bool) (n first : ℕ) → p n ≡ true → ((first ≡ 0 → ⊥) → p first ≡ true) → (number_or b n first ≡ 0 → ⊥) → p (number_or b n first) ≡ true
unfolding number_or
first_go p true n first e again h = e
first_go p false n first e again h = again h

pub first_passes : (p : ℕ → Bool) (rows : List Row) → each_number p (numbers rows) ≡ true → (first_row rows ≡ 0 → ⊥) → p (first_row rows) ≡ true
unfolding first_row each_number numbers
first_passes p [] e h = absurd (h refl)
first_passes p (r ∷ rows) e h =
    let f = both (p r.number) (each_number p (numbers rows)) e in
    first_go p r.holds r.number (first_row rows) f.0 (first_passes p rows f.1) h

-- the numbers of the input checks: 1 to 12, and 27
abbrev pub of_checks : ℕ → Bool
of_checks n = (leb 1 n && leb n MONTHEND) || eqb n SHORTEND

pub late_number : {c : Type 0} {n : ℕ} → Late c n → (CLOSED ≤ n) × (n ≤ COLLAPSED)
late_number (by_search s e) = (omega arith, omega arith)
late_number (by_room e) = (omega arith, omega arith)
late_number (by_merge e) = (omega arith, omega arith)

pub late_closed : {c : Type 0} → Late c CLOSED → c
late_closed (by_search s e) = s
late_closed (by_room e) = let bad : ⊥ = omega arith in absurd bad
late_closed (by_merge e) = let bad : ⊥ = omega arith in absurd bad

-- ---- why a build is refused n: a row of the table is the first that holds, or none does
pub data Reason (q : Request) (closed : List ℕ) (dates flags n : ℕ) : Type 0 where
  early : first_row (input_rows q closed dates flags) ≡ n → of_checks n ≡ true → Reason q closed dates flags n
  late : first_row (input_rows q closed dates flags) ≡ 0 → Late (Searches q) n → Reason q closed dates flags n

module _ (q : Request) (closed : List ℕ) where
  -- with any room
  pub steps_fine : (room : ℕ) → Passed q → Fine (Searches q) Any (steps_in q closed room)
  unfolding steps_in
  steps_fine room k =
      steps _ (generate_fine q closed room k) (λ m i.
      steps _ (finish_fine q closed m.seed for_convention for_terminal for_month_end m.dates m.flags i.seed i.all) (λ d _. gives _ tt))

  module _ (dates flags : ℕ) where
    first_of_checks : (first_row (input_rows q closed dates flags) ≡ 0 → ⊥) → of_checks (first_row (input_rows q closed dates flags)) ≡ true
    unfolding each_number
    first_of_checks h = first_passes of_checks (input_rows q closed dates flags) (ap (each_number of_checks) (in_order q closed dates flags)) h

    pub reason : (n : ℕ) → build_of q closed dates flags ≡ refused n → Reason q closed dates flags n
    unfolding build_of admitted number
    reason n h = by (first_row (input_rows q closed dates flags)) refl h
      where
        by : (k : ℕ) → first_row (input_rows q closed dates flags) ≡ k → admitted k (steps_of q closed) dates ≡ refused n → Reason q closed dates flags n
        by zero e x = late e ((steps_fine (min dates 4096) (passed q closed dates flags e)).late n (sym (steps_cut q closed dates) ∙ x))
        by (suc k) e x =
            let s : suc k ≡ n = ap number x in
            early (e ∙ s) (subst (λ (m : ℕ). of_checks m ≡ true) (e ∙ s) (first_of_checks (λ z. omega (arith, e, z))))
