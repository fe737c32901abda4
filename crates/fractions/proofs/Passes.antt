-- One turn of each pass over the dates, and the ways through the report.
-- Assumes nothing.
use Prim.Native.Nat.{ℕ, suc, ◌+◌, ◌-◌, ◌≤◌, ◌<◌}
use mathlib.Core.Path.{◌≡◌, refl, sym, ap, ◌∙◌}
use mathlib.Core.Bool.{Bool, true, false, ◌&&◌, and-true, and-false, and_assoc}
use mathlib.Core.List.{List, [], ◌∷◌}
use native.Mathlib.Numerals.{add-one}
use native.Mathlib.Nat.{add-sub_cancel}
use native.Mathlib.Omega.{arith}
use lib.Dec.{leb}
use lib.ListN.{length, get_or, drop, drop_of_length-le}
use lib.Seq.{drop-cons}
use borrow.Author.Rules.{rules}
use borrow.Author.Tests.{leb-true}
use Rattle.std.specs.List.{list_all}
use Rattle.refusal.specs.Answer.{given, refused, need, BOOK, REVERSED}
use Rattle.refusal.specs.Laws.Answers.{fails, holds, both}
use Rattle.date.specs.Date.{SPAN_FIRST, SPAN_LAST}
use Rattle.fractions.specs.declared.reports.Sums.{Sums}
use Rattle.fractions.specs.Fractions.{in_span, place}
use Rattle.fractions.specs.Reports.{all_in, rises_from, rises, sum_of, sums_of, report_of}
use Rattle.fractions.specs.Laws.Span.{inside_test, early, late}
use Rattle.fractions.specs.Laws.Ends.{between, last_from, last_at, last_le, sums_are}

-- ---- the dates in the span
pub each_inside : (ds : List ℕ) → list_all in_span ds ≡ all_in ds
unfolding all_in
each_inside [] = refl
each_inside (a ∷ ds) = ap (λ (b : Bool). in_span a && b) (each_inside ds)

-- ---- the dates in order: what `keeps` says of those before place i, and what holds of the last of them and those that follow
pub record Rising (ds : List ℕ) (keeps : Bool) (i : ℕ) : Type 0 where
  pub begun : 1 ≤ i
  pub same : (keeps && rises_from (get_or ds (i - 1) 0) (drop i ds)) ≡ rises ds

pub rising_start : (ds : List ℕ) → Rising ds true 1
unfolding rises rises_from
rising_start [] = record { begun = omega arith; same = refl }
rising_start (a ∷ ds) = record { begun = omega arith; same = refl }

rises_at : (x : ℕ) (ds : List ℕ) (i : ℕ) → i < length ds → rises_from x (drop i ds) ≡ (leb x (get_or ds i 0) && rises_from (get_or ds i 0) (drop (suc i) ds))
unfolding rises_from
rises_at x ds i h = rw (drop-cons ds i 0 h) refl

module _ {ds : List ℕ} {keeps : Bool} {i : ℕ} (g : Rising ds keeps i) where
  pub rising_next : i < length ds → Rising ds (keeps && leb (get_or ds (i - 1) 0) (get_or ds i 0)) (i + 1)
  rising_next h =
      let x = get_or ds (i - 1) 0 in
      let y = get_or ds i 0 in
      record {
        begun = omega arith;
        same =
            ap (λ (k : ℕ). (keeps && leb x y) && rises_from (get_or ds k 0) (drop (i + 1) ds)) (add-sub_cancel i 1)
            ∙ ap (λ (k : ℕ). (keeps && leb x y) && rises_from y (drop k ds)) (add-one i)
            ∙ and_assoc keeps (leb x y) (rises_from y (drop (suc i) ds))
            ∙ ap (λ (b : Bool). keeps && b) (sym (rises_at x ds i h))
            ∙ g.same;
      }

  pub rising_end : length ds ≤ i → keeps ≡ rises ds
  unfolding rises_from
  rising_end h =
      let e : (keeps && rises_from (get_or ds (i - 1) 0) (drop i ds)) ≡ keeps = rw (drop_of_length-le ds h) (and-true keeps) in
      sym e ∙ g.same

pub ruleset risings = (rising_start, rising_next, rising_end, rules)

-- ---- the report
pub between_is : (a b d n : ℕ) → d ≡ b - a → n ≡ place b - place a → ◌≡◌ {A = Sums} (record { actual360 = d; actual365 = d; thirty360 = n }) (between a b)
unfolding between
between_is a b d n e h = rw (e, h) refl

last_outside_lem : (a : ℕ) (ds : List ℕ) → SPAN_LAST < last_from a ds → all_in (a ∷ ds) ≡ false
unfolding all_in last_from
last_outside_lem a [] h = rw (late a h) refl
last_outside_lem a (b ∷ ds) h = rw (last_outside_lem b ds h) (and-false (in_span a))

-- dates in order lie in the span if the first and the last do
ends_inside : (a : ℕ) (ds : List ℕ) → rises_from a ds ≡ true → SPAN_FIRST ≤ a → last_from a ds ≤ SPAN_LAST → all_in (a ∷ ds) ≡ true
unfolding all_in rises_from last_from
ends_inside a [] r h i = rw (inside_test a (record { from = h; to = i })) refl
ends_inside a (b ∷ ds) r h i =
    let p = both (leb a b) (rises_from b ds) r in
    let l = last_le b ds p.1 in
    let m = leb-true a b p.0 in
    rw (inside_test a (record { from = h; to = omega arith })) (ends_inside b ds p.1 (omega arith) i)

pub report_none : (ds : List ℕ) → length ds ≡ 0 → given (record { actual360 = 0; actual365 = 0; thirty360 = 0 }) ≡ report_of ds
unfolding report_of all_in rises sums_of sum_of need
report_none [] h = refl
report_none (a ∷ ds) h = let bad : ⊥ = omega arith in absurd bad

pub report_early : (ds : List ℕ) → (length ds ≡ 0 → ⊥) → get_or ds 0 0 < SPAN_FIRST → refused BOOK ≡ report_of ds
unfolding report_of all_in
report_early [] some h = absurd (some refl)
report_early (a ∷ ds) some h = fails BOOK _ _ (rw (early a h) refl)

pub report_late : (ds : List ℕ) → (length ds ≡ 0 → ⊥) → SPAN_LAST < get_or ds (length ds - 1) 0 → refused BOOK ≡ report_of ds
unfolding report_of
report_late [] some h = absurd (some refl)
report_late (a ∷ ds) some h = fails BOOK _ _ (last_outside_lem a ds (rw (← last_at a ds) h))

pub first_last : (ds : List ℕ) → rises ds ≡ true → get_or ds 0 0 ≤ get_or ds (length ds - 1) 0
unfolding rises
first_last [] p = omega arith
first_last (a ∷ ds) p = rw (last_at a ds) (last_le a ds p)

pub report_sums : (ds : List ℕ) (t : Bool) → t ≡ rises ds → t ≡ true → (length ds ≡ 0 → ⊥) → SPAN_FIRST ≤ get_or ds 0 0 → get_or ds (length ds - 1) 0 ≤ SPAN_LAST → (s : Sums) → s ≡ between (get_or ds 0 0) (get_or ds (length ds - 1) 0) → given s ≡ report_of ds
unfolding report_of rises
report_sums [] t p q some h i s e = absurd (some refl)
report_sums (a ∷ ds) t p q some h i s e =
    let r : rises_from a ds ≡ true = sym p ∙ q in
    let l = last_at a ds in
    holds BOOK _ _ _ (ends_inside a ds r h (rw (← l) i)) (holds REVERSED _ _ _ r (ap given (e ∙ ap (λ (n : ℕ). between a n) l ∙ sym (sums_are a ds (omega arith) r))))

pub report_reversed : (ds : List ℕ) (t u : Bool) → t ≡ rises ds → t ≡ false → u ≡ list_all in_span ds → u ≡ true → refused REVERSED ≡ report_of ds
unfolding report_of
report_reversed ds t u p q v w = holds BOOK _ _ _ (sym (each_inside ds) ∙ sym v ∙ w) (fails REVERSED _ _ (sym p ∙ q))

pub report_outside : (ds : List ℕ) (u : Bool) → u ≡ list_all in_span ds → u ≡ false → refused BOOK ≡ report_of ds
unfolding report_of
report_outside ds u v w = fails BOOK _ _ (sym (each_inside ds) ∙ sym v ∙ w)

pub ruleset reports = (report_none, report_early, report_late, report_sums, report_reversed, report_outside, rules)
