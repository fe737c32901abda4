-- A run of lists that keep their rule keeps it, and a search among days of one year needs the run of that year alone.
-- Assumes nothing.
use Rattle.std.specs.Prelude.{ℕ, suc, ◌+◌, ◌≤◌, ◌≡◌, Bool, ◌&&◌, eqb, length}
use Rattle.std.proofs.Math.Path.{refl}
use Rattle.std.proofs.Common.{sym, ap}
use Rattle.std.proofs.Math.Bool.{true, false}
use mathlib.Core.List.{List, [], ◌∷◌}
use native.Mathlib.Omega.{arith}
use Rattle.std.proofs.Math.Dec.{leb}
use borrow.Author.Tests.{leb-true, le-leb}
use Rattle.refusal.specs.Laws.Answers.{both}
use Rattle.date.specs.Date.{SPAN_FIRST, SPAN_LAST, step}
use Rattle.calendar.specs.Open.{ascending, closed_ok, is_open_day}
use Rattle.calendar.specs.AnyCalendar.{first_open}
use Rattle.desk.specs.Desk.{year_of, kept, entries_in, or_else, run_of, opens_over}
use Rattle.desk.specs.Runs.{Within}
use Rattle.desk.specs.Laws.Ascending.{lower}
use Rattle.desk.specs.Laws.Cut.{alike}

few_kept : (b : Bool) (x n : ℕ) (xs : List ℕ) → length xs ≤ n → length (kept b x xs) ≤ suc n
unfolding kept
few_kept true x n xs h = omega arith
few_kept false x n xs h = omega arith

module _ (year : ℕ) where
  fewer : (xs : List ℕ) → length (entries_in year xs) ≤ length xs
  unfolding entries_in
  fewer [] = omega arith
  fewer (x ∷ xs) = few_kept (eqb (year_of x) year) x (length xs) (entries_in year xs) (fewer xs)

  still : (low high : ℕ) (xs : List ℕ) → ascending low high xs ≡ true → ascending low high (entries_in year xs) ≡ true
  unfolding entries_in ascending kept
  still low high [] e = refl
  still low high (x ∷ xs) e =
      let p = both (leb low x) (leb x high && ascending (x + 1) high xs) e in
      let q = both (leb x high) (ascending (x + 1) high xs) p.1 in
      by (eqb (year_of x) year) p.0 q.0 (still (x + 1) high xs q.1)
    where
      by : (b : Bool) → leb low x ≡ true → leb x high ≡ true → ascending (x + 1) high (entries_in year xs) ≡ true → ascending low high (kept b x (entries_in year xs)) ≡ true
      by true l h r = rw (l, h) r
      by false l h r = lower low (x + 1) high (entries_in year xs) (omega (arith, leb-true low x l)) r

  entries_ok : (list : List ℕ) → closed_ok list ≡ true → closed_ok (entries_in year list) ≡ true
  unfolding closed_ok
  entries_ok list ok =
      let p = both (leb (length list) 4096) (ascending SPAN_FIRST SPAN_LAST list) ok in
      let q : leb (length (entries_in year list)) 4096 ≡ true = le-leb (length (entries_in year list)) 4096 (omega (arith, fewer list, leb-true (length list) 4096 p.0)) in
      rw q (still SPAN_FIRST SPAN_LAST list p.1)

or_ok : (own other : List ℕ) → closed_ok own ≡ true → closed_ok other ≡ true → closed_ok (or_else own other) ≡ true
unfolding or_else
or_ok [] other p q = q
or_ok (x ∷ xs) other p q = p

pub run_ok : (desk house : List ℕ) (year : ℕ) → closed_ok desk ≡ true → closed_ok house ≡ true → closed_ok (run_of desk house year) ≡ true
unfolding run_of
run_ok desk house year p q =
    or_ok (entries_in year desk) (entries_in year house) (entries_ok year desk p) (entries_ok year house q)

-- ---- among days of one year
pub one_year : (mask : ℕ) (desk house : List ℕ) (back : Bool) (tries day year : ℕ) → Within back day tries year → first_open (is_open_day mask (run_of desk house year)) back tries day ≡ first_open (opens_over mask desk house) back tries day
unfolding opens_over
one_year mask desk house back tries day year w =
    alike (is_open_day mask (run_of desk house year)) (opens_over mask desk house) back tries day
    (λ k h. ap (λ (y : ℕ). is_open_day mask (run_of desk house y) (step back day k)) (sym (w.in_it_lem k h)))
