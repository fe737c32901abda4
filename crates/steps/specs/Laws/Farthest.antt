-- How far the dates of a schedule moved: no less than any entry's two dates are apart, and as far as one entry's are; 0 where nothing
-- adjusts.
-- Assumes nothing.
use Rattle.std.specs.Prelude.{ℕ, zero, suc, ◌-◌, ◌≤◌, ◌<◌, max, ◌≡◌, refl, Bool, true, false, List, [], ◌∷◌, leb, length, get_or, take}
use Rattle.std.proofs.Common.{sym, arith, leb-true, leb-false}
use Rattle.std.proofs.Math.Path.{ap}
use Rattle.refusal.specs.Answer.{Answer, given, refused}
use Rattle.steps.specs.declared.Request.{Request}
use Rattle.steps.specs.Entries.{Entries, apart, farthest, moved_of, entries_of}
use Rattle.steps.specs.Laws.Entries.{NothingAdjusts, equal_pairs, as_many_unadjusted}

pub apart_turned : (a b : ℕ) → apart a b ≡ apart b a
unfolding apart
apart_turned a b = omega arith

pub apart_less : (a b : ℕ) → a ≤ b → apart a b ≡ b - a
unfolding apart
apart_less a b h = omega arith

pub none_beside : (ps : List ℕ) → farthest ps [] ≡ 0
unfolding farthest
none_beside [] = refl
none_beside (p ∷ ps) = refl

-- ---- of two lists side by side
pub no_less : (ps gs : List ℕ) (i : ℕ) → i < length ps → i < length gs → apart (get_or ps i 0) (get_or gs i 0) ≤ farthest ps gs
unfolding farthest
no_less [] gs i h k = let bad : ⊥ = omega arith in absurd bad
no_less (p ∷ ps) [] i h k = let bad : ⊥ = omega arith in absurd bad
no_less (p ∷ ps) (g ∷ gs) zero h k = omega arith
no_less (p ∷ ps) (g ∷ gs) (suc i) h k = let l = no_less ps gs i (omega arith) (omega arith) in omega arith

pub record OneOf (ps gs : List ℕ) : Type 0 where
  pub place : ℕ
  pub within : place < length ps
  pub so : farthest ps gs ≡ apart (get_or ps place 0) (get_or gs place 0)

pub one_of : (ps gs : List ℕ) → 0 < length ps → length ps ≡ length gs → OneOf ps gs
unfolding farthest
one_of [] gs h k = let bad : ⊥ = omega arith in absurd bad
one_of (p ∷ ps) [] h k = let bad : ⊥ = omega arith in absurd bad
one_of (p ∷ []) (g ∷ gs) h k = record { place = 0; within = omega arith; so = omega arith }
one_of (p ∷ (p₂ ∷ ps)) (g ∷ gs) h k = among (one_of (p₂ ∷ ps) gs (omega arith) (omega arith)) (leb (apart p g) (farthest (p₂ ∷ ps) gs)) refl
  where
    among : OneOf (p₂ ∷ ps) gs → (b : Bool) → leb (apart p g) (farthest (p₂ ∷ ps) gs) ≡ b → OneOf (p ∷ (p₂ ∷ ps)) (g ∷ gs)
    among o true l =
        let less = leb-true (apart p g) (farthest (p₂ ∷ ps) gs) l in
        record { place = suc o.place; within = let w = o.within in omega arith; so = let s = o.so in omega arith }
    among o false l =
        let more = leb-false (apart p g) (farthest (p₂ ∷ ps) gs) l in
        record { place = 0; within = omega arith; so = omega arith }

pub at_most : (n : ℕ) (ps gs : List ℕ) → ((i : ℕ) → i < length ps → i < length gs → apart (get_or ps i 0) (get_or gs i 0) ≤ n) → farthest ps gs ≤ n
unfolding farthest
at_most n [] gs h = omega arith
at_most n (p ∷ ps) [] h = omega arith
at_most n (p ∷ ps) (g ∷ gs) h =
    let a : apart p g ≤ n = h 0 (omega arith) (omega arith) in
    let b = at_most n ps gs (λ i k l. h (suc i) (omega arith) (omega arith)) in
    omega arith

-- one place more
pub one_more : (ps gs : List ℕ) (i : ℕ) → i < length ps → i < length gs → farthest (take (suc i) ps) (take (suc i) gs) ≡ max (farthest (take i ps) (take i gs)) (apart (get_or ps i 0) (get_or gs i 0))
unfolding farthest
one_more [] gs i h k = let bad : ⊥ = omega arith in absurd bad
one_more (p ∷ ps) [] i h k = let bad : ⊥ = omega arith in absurd bad
one_more (p ∷ ps) (g ∷ gs) zero h k = omega arith
one_more (p ∷ ps) (g ∷ gs) (suc i) h k = let l = one_more ps gs i (omega arith) (omega arith) in omega arith

pub same_dates : (ds : List ℕ) → farthest ds ds ≡ 0
unfolding farthest apart
same_dates [] = refl
same_dates (d ∷ ds) = let l = same_dates ds in omega arith

-- ---- of a build
module _ (q : Request) (closed : List ℕ) (dates flags unadjusted : ℕ) (e : Entries) (h : entries_of q closed dates flags unadjusted ≡ given e) where
  is_farthest : moved_of (entries_of q closed dates flags unadjusted) ≡ farthest e.schedule.dates e.unadjusted
  unfolding moved_of
  is_farthest = ap moved_of h

  -- no entry moved farther
  pub moved_no_less : (i : ℕ) → i < length e.schedule.dates → apart (get_or e.schedule.dates i 0) (get_or e.unadjusted i 0) ≤ moved_of (entries_of q closed dates flags unadjusted)
  moved_no_less i k =
      let s = as_many_unadjusted q closed dates flags unadjusted e h in
      rw is_farthest (no_less e.schedule.dates e.unadjusted i k (omega arith))

  -- and one moved so far
  pub moved_one_of : 0 < length e.schedule.dates → OneOf e.schedule.dates e.unadjusted
  moved_one_of k = one_of e.schedule.dates e.unadjusted k (sym (as_many_unadjusted q closed dates flags unadjusted e h))

-- where both conventions are Unadjusted and end of month is off
pub none_moved : (q : Request) → NothingAdjusts q → (closed : List ℕ) (dates flags unadjusted : ℕ) → moved_of (entries_of q closed dates flags unadjusted) ≡ 0
unfolding moved_of
none_moved q u closed dates flags unadjusted = by (entries_of q closed dates flags unadjusted) refl
  where
    by : (o : Answer Entries) → entries_of q closed dates flags unadjusted ≡ o → moved_of o ≡ 0
    by (refused n) k = refl
    by (given e) k = rw (equal_pairs q u closed dates flags unadjusted e k) (same_dates e.schedule.dates)
