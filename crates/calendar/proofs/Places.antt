-- What a comparison tells of where the place is.
-- Assumes nothing.
use Prim.Native.Nat.{ℕ, ◌+◌, ◌-◌, ◌≤◌, ◌<◌}
use mathlib.Core.Path.{◌≡◌, refl, ap, sym, subst, ◌∙◌}
use mathlib.Core.Bool.{true}
use mathlib.Core.List.{List}
use mathlib.Core.Logic.{⊎_elim}
use native.Mathlib.Nat.{not-suc-le-zero, eq-or-lt_of_le}
use native.Mathlib.Omega.{arith}
use lib.ListN.{length, get_or, take, drop}
use Rattle.std.specs.Prelude.{ltb, false}
use Rattle.std.specs.List.Sorted.{IsPartitionedBy, IsPartitionPoint}
use Rattle.std.proofs.lemmas.List.{get_or-take, get_or-drop, length-take, length-drop}
use Rattle.std.proofs.Common.{Bool, ltb-true, ltb-false, lt-ltb}
use Rattle.std.proofs.lemmas.Grind.{get_or_default_zero}
use borrow.Author.Rules.{rules}
use Rattle.calendar.specs.Open.{closed_ok}
use Rattle.calendar.specs.Laws.Kept.{ok_at}
use Rattle.calendar.specs.Inner.Places.{LowerBound, Bracket}

-- a number that is at least another, and not the same, is greater
pub strictly : (x y : ℕ) → x ≤ y → (y ≡ x → ⊥) → x < y
strictly x y l d = ⊎_elim (λ (q : x ≡ y). absurd (d (sym q))) (λ (q : x < y). q) (eq-or-lt_of_le l)

pub bracket_start : {closed : List ℕ} {x : ℕ} → Bracket closed x 0 (length closed)
bracket_start =
    record {
      order = omega arith;
      within = omega arith;
      below = λ ok. record { before = λ k l. absurd (not-suc-le-zero l) };
      from = λ ok k l h. omega arith;
    }

module _ {closed : List ℕ} {x lo hi : ℕ} (b : Bracket closed x lo hi) where
  pub bracket_up : {m : ℕ} → lo ≤ m → m < hi → get_or closed m 0 < x → Bracket closed x (m + 1) hi
  bracket_up {m} l h c =
      record {
        order = omega arith;
        within = b.within;
        below = λ ok. record { before = λ k q. ⊎_elim (λ (p : k ≡ m). rw p c) (λ (p : k < m). omega (arith, ok_at closed k m ok p (omega (arith, b.within)))) (eq-or-lt_of_le (omega arith)) };
        from = b.from;
      }

  pub bracket_down : {m : ℕ} → lo ≤ m → m < hi → x ≤ get_or closed m 0 → Bracket closed x lo m
  bracket_down {m} l h c =
      record {
        order = l;
        within = omega (arith, b.within);
        below = b.below;
        from = λ ok k q r. ⊎_elim (λ (p : m ≡ k). rw (← p) c) (λ (p : m < k). omega (arith, ok_at closed m k ok p r)) (eq-or-lt_of_le q);
      }

  pub bracket_end : hi ≤ lo → LowerBound closed x lo
  bracket_end h =
      record {
        within = omega (arith, b.order, b.within);
        below = b.below;
        from = λ ok k l r. b.from ok k (omega arith) r;
      }

-- ---- the library's search of a part of the list
module _ {closed : List ℕ} {x lo hi : ℕ} (b : Bracket closed x lo hi) where
  part_at : (i d : ℕ) → i < hi - lo → get_or (take (hi - lo) (drop lo closed)) i d ≡ get_or closed (lo + i) 0
  part_at i d h =
      get_or-take (hi - lo) (drop lo closed) i d h
      ∙ get_or-drop lo closed i d
      ∙ get_or_default_zero closed (lo + i) d (omega (arith, b.within))

  pub part_size : length (take (hi - lo) (drop lo closed)) ≡ hi - lo
  part_size = rw (length-take, length-drop) (omega (arith, b.order, b.within))

  -- before a date that is before x there are only such
  pub parted : closed_ok closed ≡ true → IsPartitionedBy (λ (d : ℕ). ltb d x) (take (hi - lo) (drop lo closed))
  parted ok i j d l h p =
      let n : j < hi - lo = rw part_size at h in
      let q : get_or closed (lo + j) 0 < x = ltb-true _ _ (sym (ap (λ (y : ℕ). ltb y x) (part_at j d n)) ∙ p) in
      ap (λ (y : ℕ). ltb y x) (part_at i d (omega arith))
      ∙ lt-ltb _ _ (⊎_elim (λ (e : i ≡ j). rw e q) (λ (e : i < j). omega (arith, q, ok_at closed (lo + i) (lo + j) ok (omega arith) (omega (arith, b.within)))) (eq-or-lt_of_le l))

  module _ (r : ℕ) (h : r ≤ hi - lo) (point : closed_ok closed ≡ true → IsPartitionPoint (λ (d : ℕ). ltb d x ≡ true) (λ (d : ℕ). ltb d x ≡ false) (take (hi - lo) (drop lo closed)) r) where
    -- the date at a place of the part, by its place in the list
    there : (k : ℕ) → lo ≤ k → k < hi → get_or (take (hi - lo) (drop lo closed)) (k - lo) 0 ≡ get_or closed k 0
    there k l m = part_at (k - lo) 0 (omega arith) ∙ ap (λ (n : ℕ). get_or closed n 0) (back k l)
      where
        back : (k : ℕ) → lo ≤ k → lo + (k - lo) ≡ k
        back k l = omega arith

    low : closed_ok closed ≡ true → (k : ℕ) → k < lo + r → (t : Bool) → ltb k lo ≡ t → get_or closed k 0 < x
    low ok k l true e = (b.below ok).before k (ltb-true k lo e)
    low ok k l false e =
        let g : lo ≤ k = ltb-false k lo e in
        ltb-true _ _ (sym (ap (λ (y : ℕ). ltb y x) (there k g (omega arith))) ∙ (point ok).0 (k - lo) 0 (omega arith) (omega arith))

    high : closed_ok closed ≡ true → (k : ℕ) → lo + r ≤ k → k < length closed → (t : Bool) → ltb k hi ≡ t → x ≤ get_or closed k 0
    high ok k l m true e =
        let g : k < hi = ltb-true k hi e in
        ltb-false _ _ (sym (ap (λ (y : ℕ). ltb y x) (there k (omega arith) g)) ∙ (point ok).1 (k - lo) 0 (omega arith) (rw part_size (omega arith)))
    high ok k l m false e = b.from ok k (ltb-false k hi e) m

    pub bisected : LowerBound closed x (lo + r)
    bisected =
        record {
          within = omega (arith, b.order, b.within);
          below = λ ok. record { before = λ k l. low ok k l (ltb k lo) refl };
          from = λ ok k l m. high ok k l m (ltb k hi) refl;
        }

-- a place whose date is not before x, behind one that is
pub place_at : {closed : List ℕ} {x : ℕ} (place : ℕ) → Bracket closed x 0 place → (place ≡ 0 → ⊥) → get_or closed (place - 1) 0 < x → LowerBound closed x place
place_at {closed} {x} place b n c =
    let some : 1 ≤ place = omega (arith, n) in
    let e : place - 1 + 1 ≡ place = omega arith in
    bracket_end (subst (λ (p : ℕ). Bracket closed x p place) e (bracket_up b (omega arith) (omega arith) c)) (omega arith)

-- ---- the place of the next day
module _ {closed : List ℕ} {x at : ℕ} (b : LowerBound closed x at) where
  pub after_listed : at < length closed → get_or closed at 0 ≡ x → LowerBound closed (x + 1) (at + 1)
  after_listed h e =
      record {
        within = omega arith;
        below = λ ok. record { before = λ k q. ⊎_elim (λ (p : k ≡ at). rw p (omega arith)) (λ (p : k < at). omega (arith, (b.below ok).before k p)) (eq-or-lt_of_le (omega arith)) };
        from = λ ok k q r. omega (arith, ok_at closed at k ok (omega arith) r);
      }

  -- where the date at the place is another one, or none is there
  after_from : (closed_ok closed ≡ true → (k : ℕ) → at ≤ k → k < length closed → x < get_or closed k 0) → LowerBound closed (x + 1) at
  after_from f =
      record {
        within = b.within;
        below = λ ok. record { before = λ k q. omega (arith, (b.below ok).before k q) };
        from = λ ok k q r. omega (arith, f ok k q r);
      }

  pub after_other_lem : at < length closed → (get_or closed at 0 ≡ x → ⊥) → LowerBound closed (x + 1) at
  after_other_lem h e =
      after_from (λ ok k q r. ⊎_elim (λ (p : at ≡ k). rw (← p) (strictly x (get_or closed at 0) (b.from ok at (omega arith) h) e)) (λ (p : at < k). omega (arith, ok_at closed at k ok p r, b.from ok at (omega arith) h)) (eq-or-lt_of_le q))

  pub after_end_lem : length closed ≤ at → LowerBound closed (x + 1) at
  after_end_lem h = after_from (λ ok k q r. let bad : ⊥ = omega arith in absurd bad)

pub ruleset places = (bracket_start, bracket_up, bracket_down, bracket_end, after_listed, after_other_lem, after_end_lem, rules)
