-- What the code counts: the days or months between a seed and a day, by direction, and the coming date by candidates of that seed. It is the
-- definition's.
-- Assumes nothing.
use Prim.Native.Nat.{ℕ, suc, ◌+◌, ◌-◌, ◌*◌, ◌/◌, ◌≤◌}
use Rattle.std.specs.Prelude.{◌≡◌, Bool}
use Rattle.std.proofs.Math.Path.{refl, ap}
use Rattle.std.proofs.Common.{sym, ◌∙◌, one-mul}
use Rattle.std.proofs.Math.Bool.{true, false}
use Rattle.refusal.specs.Answer.{Answer}
use Rattle.period.specs.declared.Unit.{Unit as TimeUnit}
use Rattle.period.specs.declared.Unit.TheVariants.{Days, Weeks, Months, Years}
use Rattle.date.specs.declared.Fields.{Fields}
use Rattle.date.specs.Civil.{pick_n}
use Rattle.date.specs.Date.{within_span, month_index, in_month, step, shift_months, shifted}
use Rattle.steps.specs.declared.Request.{Request}
use Rattle.steps.specs.declared.Pace.{Pace}
use Rattle.steps.specs.declared.Seed.{Seed}
use Rattle.steps.specs.Rules.{pace_by, pace_of}
use Rattle.steps.specs.Candidates.{seed_of, candidate_by, candidate, is_past}
use Rattle.plain.specs.Demand.{tenor_length, tenors_before, count_of, tenor_count}
use Rattle.plain.specs.Forward.{tenors_after}
use Rattle.plain.specs.Most.{day_or, months_between, most_by, most_on_by}
use Rattle.plain.specs.Laws.Tenor.{candidate_by_tenors}
use Rattle.coming.specs.Coming.{Comes, comes, on_or, comes_forward, flag_by, tenors_kept, comes_backward}

-- from a back to b, or on to b
unfoldable pub apart : Bool → ℕ → ℕ → ℕ
apart true a b = a - b
apart false a b = b - a

-- the months between, one less where the seed's day of that month lies past the day
abbrev pub months_apart : Bool → Seed → ℕ → ℕ
months_apart back seed near = apart back seed.month (month_index near)

unfoldable pub most_months : Bool → Seed → ℕ → ℕ
most_months back seed near =
    pick_n (is_past back near (day_or (in_month (step back seed.month (months_apart back seed near)) seed.keep)))
    (months_apart back seed near - 1) (months_apart back seed near)

unfoldable pub most_from : Bool → Bool → Seed → ℕ → ℕ
most_from back false seed near = apart back seed.day near
most_from back true seed near = most_months back seed near

abbrev pub tenors_from : Bool → Pace → Seed → ℕ → ℕ
tenors_from back pace seed near = most_from back pace.monthly seed near / pace.size

unfoldable pub behind_of : Pace → Seed → ℕ → ℕ → Comes
behind_of pace seed effective x =
    comes (day_or (candidate true pace seed (tenors_from true pace seed (x + 1))))
    (flag_by (candidate true pace seed (suc (tenors_from true pace seed (x + 1)))) effective)

unfoldable pub ahead_of : Pace → Seed → ℕ → ℕ → Comes
ahead_of pace seed termination x = on_or (candidate false pace seed (suc (tenors_from false pace seed x))) termination

-- ---- it is the definition's
size_is : (n : ℕ) (u : TimeUnit) → (pace_by n u).size ≡ count_of u * n
unfolding pace_by
size_is n Days = sym (one-mul n)
size_is n Weeks = refl
size_is n Months = sym (one-mul n)
size_is n Years = refl

most_back : (n : ℕ) (u : TimeUnit) (t x : ℕ) → most_from true (pace_by n u).monthly (seed_of false t) x ≡ most_by u x t
unfolding pace_by most_from most_months apart seed_of is_past most_by months_between shifted shift_months
most_back n Days t x = refl
most_back n Weeks t x = refl
most_back n Months t x = refl
most_back n Years t x = refl

most_on : (n : ℕ) (u : TimeUnit) (e x : ℕ) → most_from false (pace_by n u).monthly (seed_of false e) x ≡ most_on_by u e x
unfolding pace_by most_from most_months apart seed_of is_past most_on_by months_between shifted shift_months
most_on n Days e x = refl
most_on n Weeks e x = refl
most_on n Months e x = refl
most_on n Years e x = refl

module _ (q : Request) (x : ℕ) where
  abbrev n : ℕ
  n = tenor_length q

  abbrev u : TimeUnit
  u = q.tenor.unit

  pub behind_is : behind_of (pace_of q.tenor) (seed_of false q.termination.day) q.effective.day x ≡ comes_backward q x
  unfolding behind_of comes_backward pace_of
  behind_is =
      let t = q.termination.day in
      let k : most_from true (pace_by n u).monthly (seed_of false t) (x + 1) / (pace_by n u).size ≡ tenors_kept q x = λ i. most_back n u t (x + 1) i / size_is n u i in
      let a : candidate true (pace_by n u) (seed_of false t) _ ≡ tenors_before q (tenors_kept q x) = ap (λ (z : ℕ). candidate true (pace_by n u) (seed_of false t) z) k ∙ candidate_by_tenors true n u t (tenors_kept q x) in
      let b : candidate true (pace_by n u) (seed_of false t) _ ≡ tenors_before q (suc (tenors_kept q x)) = ap (λ (z : ℕ). candidate true (pace_by n u) (seed_of false t) (suc z)) k ∙ candidate_by_tenors true n u t (suc (tenors_kept q x)) in
      λ i. comes (day_or (a i)) (flag_by (b i) q.effective.day)

  pub ahead_is : ahead_of (pace_of q.tenor) (seed_of false q.effective.day) q.termination.day x ≡ comes_forward q x
  unfolding ahead_of comes_forward pace_of
  ahead_is =
      let e = q.effective.day in
      let k : most_from false (pace_by n u).monthly (seed_of false e) x / (pace_by n u).size ≡ most_on_by u e x / tenor_count q = λ i. most_on n u e x i / size_is n u i in
      let a : candidate false (pace_by n u) (seed_of false e) _ ≡ tenors_after q (suc (most_on_by u e x / tenor_count q)) = ap (λ (z : ℕ). candidate false (pace_by n u) (seed_of false e) (suc z)) k ∙ candidate_by_tenors false n u e (suc (most_on_by u e x / tenor_count q)) in
      λ i. on_or (a i) q.termination.day

-- ---- how far a count goes: a seed and a day of the book
pub record Booked (seed : Seed) (x : ℕ) : Type 0 where
  pub day : seed.day ≤ 803168
  pub month : seed.month ≤ 26399
  pub asked : x ≤ 803168

-- ---- a seed whose month is worked out only where it is asked for
pub record SeedIn (monthly : Bool) (day : ℕ) (seed : Seed) : Type 0 where
  pub day_is : seed.day ≡ day
  pub whole : monthly ≡ true → seed ≡ seed_of false day
  pub no_month : monthly ≡ false → seed.month ≡ 0

module _ (back : Bool) (pace : Pace) (day : ℕ) (seed : Seed) (s : SeedIn pace.monthly day seed) where
  candidate_by_lem : (k : ℕ) (b : Bool) → pace.monthly ≡ b → candidate_by b back seed k ≡ candidate_by b back (seed_of false day) k
  unfolding candidate_by seed_of
  candidate_by_lem k false e = ap (λ (d : ℕ). within_span (step back d k)) s.day_is
  candidate_by_lem k true e = ap (λ (z : Seed). in_month (step back z.month k) z.keep) (s.whole e)

  candidate_in : (k : ℕ) → candidate back pace seed k ≡ candidate back pace (seed_of false day) k
  unfolding candidate
  candidate_in k = candidate_by_lem (k * pace.size) pace.monthly refl

  most_by_lem : (near : ℕ) (b : Bool) → pace.monthly ≡ b → most_from back b seed near ≡ most_from back b (seed_of false day) near
  unfolding most_from seed_of
  most_by_lem near false e = ap (λ (d : ℕ). apart back d near) s.day_is
  most_by_lem near true e = ap (λ (z : Seed). most_months back z near) (s.whole e)

  tenors_in : (near : ℕ) → tenors_from back pace seed near ≡ tenors_from back pace (seed_of false day) near
  tenors_in near = ap (λ (n : ℕ). n / pace.size) (most_by_lem near pace.monthly refl)

  -- so of the candidate that a count of tenors leads to
  at_tenors : (near : ℕ) (f : ℕ → ℕ) → candidate back pace seed (f (tenors_from back pace seed near)) ≡ candidate back pace (seed_of false day) (f (tenors_from back pace (seed_of false day) near))
  at_tenors near f = candidate_in (f (tenors_from back pace seed near)) ∙ ap (λ (k : ℕ). candidate back pace (seed_of false day) (f k)) (tenors_in near)

module _ (pace : Pace) (day : ℕ) (seed : Seed) (s : SeedIn pace.monthly day seed) (other x : ℕ) where
  pub behind_in : behind_of pace seed other x ≡ behind_of pace (seed_of false day) other x
  unfolding behind_of
  behind_in =
      let a = at_tenors true pace day seed s (x + 1) (λ k. k) in
      let b = at_tenors true pace day seed s (x + 1) suc in
      λ i. comes (day_or (a i)) (flag_by (b i) other)

  pub ahead_in : ahead_of pace seed other x ≡ ahead_of pace (seed_of false day) other x
  unfolding ahead_of
  ahead_in = ap (λ (z : Answer ℕ). on_or z other) (at_tenors false pace day seed s x suc)

-- ---- fields whose month can be counted
pub record Counts (f : Fields) : Type 0 where
  pub some : 1 ≤ f.month
  pub months : f.month ≤ 12
  pub years : f.year ≤ 20000000
