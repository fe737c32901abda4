-- The year found by halving: one turn, and that its count is below the rank, on any index.
-- Assumes nothing.
use Prim.Native.Nat.{ℕ, zero, suc, ◌+◌, ◌-◌, ◌/◌, ◌≤◌, ◌<◌}
use Rattle.std.specs.Prelude.{◌≡◌, Bool, true, false, List, ltb}
use Rattle.std.proofs.Math.Path.{refl}
use Rattle.std.proofs.Common.{arith}
use borrow.Author.Tests.{lt-ltb, le-ltb, ltb-true, ltb-false}
use Rattle.opendays.specs.Index.{count_in, halved, unless_near, year_before}

module _ (index : List ℕ) (rank : ℕ) where
  pub turn_up : (left lo hi : ℕ) → lo + 1 < hi → count_in index (lo + (hi - lo) / 2) < rank → year_before index rank (suc left) lo hi ≡ year_before index rank left (lo + (hi - lo) / 2) hi
  unfolding year_before halved unless_near
  turn_up left lo hi h c = rw (lt-ltb (lo + 1) hi h, lt-ltb (count_in index (lo + (hi - lo) / 2)) rank c)

  pub turn_down : (left lo hi : ℕ) → lo + 1 < hi → rank ≤ count_in index (lo + (hi - lo) / 2) → year_before index rank (suc left) lo hi ≡ year_before index rank left lo (lo + (hi - lo) / 2)
  unfolding year_before halved unless_near
  turn_down left lo hi h c = rw (lt-ltb (lo + 1) hi h, le-ltb (count_in index (lo + (hi - lo) / 2)) rank c)

  pub turn_end : (left lo hi : ℕ) → hi ≤ lo + 1 → year_before index rank left lo hi ≡ lo
  unfolding year_before unless_near
  turn_end zero lo hi h = refl
  turn_end (suc left) lo hi h = rw (le-ltb (lo + 1) hi h)

  pub record Before (lo hi r : ℕ) : Type 0 where
    pub low : lo ≤ r
    pub high : r < hi
    pub below : count_in index r < rank

  start_below : (lo hi : ℕ) → lo < hi → count_in index lo < rank → Before lo hi lo
  start_below lo hi h c = record { low = omega arith; high = h; below = c }

  wider : (lo hi lo' hi' r : ℕ) → lo' ≤ lo → hi ≤ hi' → Before lo hi r → Before lo' hi' r
  wider lo hi lo' hi' r a b f = record { low = omega (arith, f.low); high = omega (arith, f.high); below = f.below }

  below_by : (near up : Bool) (left lo hi : ℕ) → ltb (lo + 1) hi ≡ near → ltb (count_in index (lo + (hi - lo) / 2)) rank ≡ up → lo < hi → count_in index lo < rank → ((a b : ℕ) → a < b → count_in index a < rank → Before a b (year_before index rank left a b)) → Before lo hi (year_before index rank (suc left) lo hi)
  below_by false up left lo hi e f h c more = rw (turn_end (suc left) lo hi (ltb-false (lo + 1) hi e)) (start_below lo hi h c)
  below_by true true left lo hi e f h c more =
      let n : lo + 1 < hi = ltb-true (lo + 1) hi e in
      let u : count_in index (lo + (hi - lo) / 2) < rank = ltb-true _ rank f in
      rw (turn_up left lo hi n u) (wider (lo + (hi - lo) / 2) hi lo hi _ (omega arith) (omega arith) (more (lo + (hi - lo) / 2) hi (omega arith) u))
  below_by true false left lo hi e f h c more =
      let n : lo + 1 < hi = ltb-true (lo + 1) hi e in
      let d : rank ≤ count_in index (lo + (hi - lo) / 2) = ltb-false _ rank f in
      rw (turn_down left lo hi n d) (wider lo (lo + (hi - lo) / 2) lo hi _ (omega arith) (omega arith) (more lo (lo + (hi - lo) / 2) (omega arith) c))

  pub year_below : (left lo hi : ℕ) → lo < hi → count_in index lo < rank → Before lo hi (year_before index rank left lo hi)
  unfolding year_before
  year_below zero lo hi h c = start_below lo hi h c
  year_below (suc left) lo hi h c = year_by left lo hi h c (year_below left)
    where
      year_by : (left lo hi : ℕ) → lo < hi → count_in index lo < rank → ((a b : ℕ) → a < b → count_in index a < rank → Before a b (year_before index rank left a b)) → Before lo hi (year_before index rank (suc left) lo hi)
      year_by left lo hi h c more = below_by (ltb (lo + 1) hi) (ltb (count_in index (lo + (hi - lo) / 2)) rank) left lo hi refl refl h c more
