-- The definition of the report has its meaning, no other answer has it, and what the sums are of the first and the last date.
-- Assumes nothing.
use Rattle.std.specs.Prelude.{ℕ, zero, suc, ◌-◌, ◌≤◌, ◌<◌, ◌≡◌, refl, Bool, true, false, ◌&&◌, List, [], ◌∷◌, leb, length, get_or}
use Rattle.std.proofs.Common.{sym, ap, ◌∙◌, arith, leb-true, leb-false, le-leb}
use Rattle.std.proofs.lemmas.Bool.{false≢true}
use Rattle.refusal.specs.Answer.{Answer, given, need, BOOK, REVERSED}
use Rattle.refusal.specs.Laws.Answers.{both, need_given, one_given, holds}
use Rattle.fractions.specs.declared.Basis.{Basis}
use Rattle.fractions.specs.declared.reports.Sums.{Sums}
use Rattle.fractions.specs.Fractions.{in_span, place, count, parts_between, parts_of}
use Rattle.fractions.specs.Reports.{all_in, rises_from, rises, sums_of, report_of}
use Rattle.fractions.specs.Promise.{Inside, AllInside, InOrder, ReportIs, some_outside, some_reversed, summed, SumsAre}
use Rattle.fractions.specs.Laws.Span.{inside, inside_test}
use Rattle.fractions.specs.Laws.Ends.{between, last_from, last_at, last_le, sums_are}

-- ---- the two tests
pub all_inside : (ds : List ℕ) → all_in ds ≡ true → AllInside ds
unfolding all_in
all_inside [] h i l = let bad : ⊥ = omega arith in absurd bad
all_inside (a ∷ ds) h zero l = inside a (both (in_span a) (all_in ds) h).0
all_inside (a ∷ ds) h (suc i) l = all_inside ds (both (in_span a) (all_in ds) h).1 i (omega arith)

record Out (ds : List ℕ) : Type 0 where
  at : ℕ
  there : at < length ds
  out : ¬ Inside (get_or ds at 0)

out_go : (a : ℕ) (ds : List ℕ) (t : Bool) → in_span a ≡ t → (t && all_in ds) ≡ false → (all_in ds ≡ false → Out ds) → Out (a ∷ ds)
out_go a ds true e h rest = let o = rest h in record { at = suc o.at; there = omega (arith, o.there); out = o.out }
out_go a ds false e h rest = record { at = 0; there = omega arith; out = λ i. false≢true (sym e ∙ inside_test a i) }

one_out : (ds : List ℕ) → all_in ds ≡ false → Out ds
unfolding all_in
one_out [] h = absurd (false≢true (sym h))
one_out (a ∷ ds) h = out_go a ds (in_span a) refl h (one_out ds)

from_order : (a : ℕ) (ds : List ℕ) → rises_from a ds ≡ true → InOrder (a ∷ ds)
unfolding rises_from
from_order a [] h i l = let bad : ⊥ = omega arith in absurd bad
from_order a (b ∷ ds) h zero l = leb-true a b (both (leb a b) (rises_from b ds) h).0
from_order a (b ∷ ds) h (suc i) l = from_order b ds (both (leb a b) (rises_from b ds) h).1 i (omega arith)

pub in_order : (ds : List ℕ) → rises ds ≡ true → InOrder ds
unfolding rises
in_order [] h i l = let bad : ⊥ = omega arith in absurd bad
in_order (a ∷ ds) h i l = from_order a ds h i l

record Back (ds : List ℕ) : Type 0 where
  at : ℕ
  there : suc at < length ds
  back : get_or ds (suc at) 0 < get_or ds at 0

back_go : (a b : ℕ) (ds : List ℕ) (t : Bool) → leb a b ≡ t → (t && rises_from b ds) ≡ false → (rises_from b ds ≡ false → Back (b ∷ ds)) → Back (a ∷ b ∷ ds)
back_go a b ds true e h rest = let o = rest h in record { at = suc o.at; there = omega (arith, o.there); back = o.back }
back_go a b ds false e h rest = record { at = 0; there = omega arith; back = leb-false a b e }

one_back : (a : ℕ) (ds : List ℕ) → rises_from a ds ≡ false → Back (a ∷ ds)
unfolding rises_from
one_back a [] h = absurd (false≢true (sym h))
one_back a (b ∷ ds) h = back_go a b ds (leb a b) refl h (one_back b ds)

some_back : (ds : List ℕ) → rises ds ≡ false → Back ds
unfolding rises
some_back [] h = absurd (false≢true (sym h))
some_back (a ∷ ds) h = one_back a ds h

-- ---- the report is one of the three, and only one
report_in : (ds : List ℕ) (t : Bool) → rises ds ≡ t → AllInside ds → ReportIs ds (need REVERSED t (given (sums_of ds)))
unfolding need
report_in ds true e i = summed i (in_order ds e)
report_in ds false e i = let o = some_back ds e in some_reversed i o.at o.there o.back

report_go : (ds : List ℕ) (s : Bool) → all_in ds ≡ s → ReportIs ds (need BOOK s (need REVERSED (rises ds) (given (sums_of ds))))
unfolding need
report_go ds true e = report_in ds (rises ds) refl (all_inside ds e)
report_go ds false e = let o = one_out ds e in some_outside o.at o.there o.out

pub report_is : (ds : List ℕ) → ReportIs ds (report_of ds)
unfolding report_of
report_is ds = report_go ds (all_in ds) refl

pub one_report : (ds : List ℕ) (x y : Answer Sums) → ReportIs ds x → ReportIs ds y → x ≡ y
one_report ds x y (some_outside i l o) (some_outside i' l' o') = refl
one_report ds x y (some_outside i l o) (some_reversed a i' l' b) = absurd (o (a i l))
one_report ds x y (some_outside i l o) (summed a b) = absurd (o (a i l))
one_report ds x y (some_reversed a i l b) (some_outside i' l' o) = absurd (o (a i' l'))
one_report ds x y (some_reversed a i l b) (some_reversed a' i' l' b') = refl
one_report ds x y (some_reversed a i l b) (summed a' o) = let h = o i l in let bad : ⊥ = omega arith in absurd bad
one_report ds x y (summed a o) (some_outside i l b) = absurd (b (a i l))
one_report ds x y (summed a o) (some_reversed a' i l b) = let h = o i l in let bad : ⊥ = omega arith in absurd bad
one_report ds x y (summed a o) (summed a' o') = refl

-- ---- a report that is given
period : (k : Basis) (a b : ℕ) → Inside a → Inside b → a ≤ b → parts_of k a b ≡ given (parts_between k a b)
unfolding parts_of
period k a b i j h =
    let t : (in_span a && in_span b) ≡ true = rw (inside_test a i) (inside_test b j) in
    sym (holds BOOK _ _ _ t (holds REVERSED _ _ _ (le-leb a b h) refl))

sums_at : (a : ℕ) (ds : List ℕ) (s : Sums) → AllInside (a ∷ ds) → rises_from a ds ≡ true → sums_of (a ∷ ds) ≡ s → SumsAre (a ∷ ds) s
unfolding count between rises
sums_at a ds s i r e =
    let o : InOrder (a ∷ ds) = in_order (a ∷ ds) r in
    let f : Inside a = i 0 (omega arith) in
    let l = last_at a ds in
    let m = last_le a ds r in
    let w : s ≡ between a (last_from a ds) = sym e ∙ sums_are a ds (omega (arith, f.from)) r in
    let x : s.actual360 ≡ last_from a ds - a = ap (λ (q : Sums). q.actual360) w in
    let y : s.actual365 ≡ last_from a ds - a = ap (λ (q : Sums). q.actual365) w in
    let z : s.thirty360 ≡ place (last_from a ds) - place a = ap (λ (q : Sums). q.thirty360) w in
    record {
      all_inside = i;
      in_order = o;
      ends = rw l m;
      actual_360 = rw l (omega arith);
      actual_365 = rw l (omega arith);
      thirty_360 = rw l z;
      periods = λ k j h. period k _ _ (i j (omega arith)) (i (suc j) h) (o j h);
    }

sums_go : (ds : List ℕ) (s : Sums) → 0 < length ds → all_in ds ≡ true → rises ds ≡ true → sums_of ds ≡ s → SumsAre ds s
unfolding rises
sums_go [] s n a r e = let bad : ⊥ = omega arith in absurd bad
sums_go (d ∷ ds) s n a r e = sums_at d ds s (all_inside (d ∷ ds) a) r e

-- the sums of the two Actual bases are last minus first, and that of 30E/360 is the numerator of first and last
pub report_given : (ds : List ℕ) (s : Sums) → report_of ds ≡ given s → 0 < length ds → SumsAre ds s
unfolding report_of
report_given ds s h n =
    let p₁ = need_given BOOK (all_in ds) _ s h in
    let p₂ = need_given REVERSED (rises ds) _ s p₁.1 in
    sums_go ds s n p₁.0 p₂.0 (one_given _ _ s refl p₂.1)
