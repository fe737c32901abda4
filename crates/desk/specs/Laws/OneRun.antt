-- The run of a year by who is in it: a day of that year that the desk lists, or that the house lists where the desk has no entry in the year. No
-- other list that ascends meets this. The same of the combined list.
-- Assumes nothing.
use Rattle.std.specs.Prelude.{ℕ, ◌≡◌, refl, Bool, true, false, ◌&&◌, ◌||◌, List, eqb}
use Rattle.std.proofs.Common.{sym, ap, ◌∙◌, arith}
use Rattle.date.specs.Date.{SPAN_FIRST, SPAN_LAST}
use Rattle.calendar.specs.Open.{member, ascending, closed_ok}
use Rattle.desk.specs.Desk.{year_of, entries_in, run_of, has_none, left_to, combined}
use Rattle.desk.specs.Laws.Ascending.{one_ascending}
use Rattle.desk.specs.Laws.Entries.{entry_member, or_else_lem}
use Rattle.desk.specs.Laws.Runs.{run_ok}
use Rattle.desk.specs.Laws.Over.{combined_member}
use Rattle.desk.specs.Laws.Combined.{ok_ascends, combined_ascends}

pub record IsRun (desk house : List ℕ) (year : ℕ) (run : List ℕ) : Type 0 where
  pub ascends : ascending SPAN_FIRST SPAN_LAST run ≡ true
  pub holds : (d : ℕ) → member d run ≡ (eqb (year_of d) year && (member d desk || (member d house && has_none (entries_in year desk))))

run_holds : (desk house : List ℕ) (year d : ℕ) → member d (run_of desk house year) ≡ (eqb (year_of d) year && (member d desk || (member d house && has_none (entries_in year desk))))
unfolding run_of
run_holds desk house year d =
    or_else_lem (has_none (entries_in year desk)) d (entries_in year desk) (entries_in year house) refl
    ∙ ap (λ (b : Bool). b || (member d (entries_in year house) && has_none (entries_in year desk))) (entry_member year d desk)
    ∙ ap (λ (b : Bool). (eqb (year_of d) year && member d desk) || (b && has_none (entries_in year desk))) (entry_member year d house)
    ∙ by (eqb (year_of d) year) (member d desk) (member d house) (has_none (entries_in year desk))
  where
    by : (y o h n : Bool) → ((y && o) || ((y && h) && n)) ≡ (y && (o || (h && n)))
    by true o h n = refl
    by false o h n = refl

pub run_is : (desk house : List ℕ) (year : ℕ) → closed_ok desk ≡ true → closed_ok house ≡ true → IsRun desk house year (run_of desk house year)
run_is desk house year p q =
    record {
      ascends = ok_ascends (run_of desk house year) (run_ok desk house year p q);
      holds = run_holds desk house year;
    }

pub one_run : (desk house : List ℕ) (year : ℕ) (a b : List ℕ) → IsRun desk house year a → IsRun desk house year b → a ≡ b
one_run desk house year a b p q =
    one_ascending SPAN_LAST SPAN_FIRST a b p.ascends q.ascends (λ d. p.holds d ∙ sym (q.holds d))

-- ---- the combined list
pub record IsCombined (desk house list : List ℕ) : Type 0 where
  pub ascends : ascending SPAN_FIRST SPAN_LAST list ≡ true
  pub holds : (d : ℕ) → member d list ≡ (member d desk || (member d house && left_to desk d))

pub combined_is : (desk house : List ℕ) → closed_ok desk ≡ true → closed_ok house ≡ true → IsCombined desk house (combined desk house)
combined_is desk house p q =
    record {
      ascends = combined_ascends desk SPAN_FIRST SPAN_LAST (ok_ascends desk p) SPAN_FIRST house (omega arith) (ok_ascends house q);
      holds = λ d. combined_member d desk house;
    }

pub one_combined : (desk house a b : List ℕ) → IsCombined desk house a → IsCombined desk house b → a ≡ b
one_combined desk house a b p q =
    one_ascending SPAN_LAST SPAN_FIRST a b p.ascends q.ascends (λ d. p.holds d ∙ sym (q.holds d))
