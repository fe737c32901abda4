-- A law for each way through `candidate`.
-- Assumes nothing.
use mathlib.Core.Path.{◌≡◌}
use mathlib.Core.Bool.{Bool, true, false}
use Prim.Native.Nat.{ℕ, ◌+◌, ◌-◌, ◌*◌, ◌≤◌, ◌<◌}
use native.Mathlib.Nat.{mul-le-mul}
use native.Mathlib.Omega.{arith}
use lib.Dec.{leb}
use mir.Syntax.{w64}
use mir.Val.{Fits}
use borrow.Author.Tests.{lt-leb}
use Rattle.refusal.specs.Answer.{Answer, refused, BOOK}
use Rattle.refusal.specs.Laws.Answers.{fails, after}
use Rattle.period.specs.declared.Unit.TheVariants.{Days}
use Rattle.date.specs.Date.{SPAN_FIRST, SPAN_LAST, step, shifted, shift_days, within_span, in_month}
use Rattle.date.specs.Laws.Made.{make_early}
use Rattle.date.specs.Laws.Moves.{month_late}
use Rattle.steps.specs.declared.Pace.{Pace}
use Rattle.steps.specs.declared.Seed.{Seed}
use Rattle.steps.specs.Candidates.{candidate, candidate_by}
use Rattle.working.specs.Paces.{pace}

-- ---- a candidate
pub product_fits : (k s : ℕ) → k < 4294967296 → s < 4294967296 → Fits w64 (k * s)
product_fits k s a b =
    let x : k ≤ 4294967295 = omega arith in
    let y : s ≤ 4294967295 = omega arith in
    record { fits = omega (arith, mul-le-mul x y) }

module _ (back : Bool) (pace : Pace) (seed : Seed) (k : ℕ) (r : Answer ℕ) where
  pub candidate_months : pace.monthly ≡ true → r ≡ in_month (step back seed.month (k * pace.size)) seed.keep → r ≡ candidate back pace seed k
  unfolding candidate candidate_by
  candidate_months e h = rw e h

  pub candidate_days : pace.monthly ≡ false → r ≡ shifted seed.day back (k * pace.size) Days → r ≡ candidate back pace seed k
  unfolding candidate candidate_by shifted shift_days
  candidate_days e h = rw e h

-- further off than a u32 counts there is no day of the span
days_far : (back : Bool) (day n : ℕ) → day < 4294967296 → 4294967295 < n → refused BOOK ≡ within_span (step back day n)
unfolding step within_span
days_far true day n h f = let e : day - n ≡ 0 = omega arith in rw e (fails BOOK _ _ (lt-leb SPAN_FIRST 0 (omega arith)))
days_far false day n h f = after BOOK (leb SPAN_FIRST (day + n)) _ (fails BOOK _ _ (lt-leb (day + n) SPAN_LAST (omega arith)))

before_span : (d : ℕ) → refused BOOK ≡ in_month 0 d
unfolding in_month
before_span d = make_early _ _ _ (omega arith)

months_far : (back : Bool) (t n d : ℕ) → t < 4294967296 → 4294967295 < n → refused BOOK ≡ in_month (step back t n) d
unfolding step
months_far true t n d h f = let e : t - n ≡ 0 = omega arith in rw e (before_span d)
months_far false t n d h f = month_late (t + n) d (omega arith)

far_by : (monthly back : Bool) (seed : Seed) (n : ℕ) → seed.day < 4294967296 → seed.month < 4294967296 → 4294967295 < n → refused BOOK ≡ candidate_by monthly back seed n
unfolding candidate_by
far_by false back seed n d m f = days_far back seed.day n d f
far_by true back seed n d m f = months_far back seed.month n seed.keep m f

pub candidate_far : (back : Bool) (pace : Pace) (seed : Seed) (k n : ℕ) → n ≡ k * pace.size → seed.day < 4294967296 → seed.month < 4294967296 → 4294967295 < n → refused BOOK ≡ candidate back pace seed k
unfolding candidate
candidate_far back pace seed k n e d m f = far_by pace.monthly back seed (k * pace.size) d m (rw e at f)
