-- A count in the first place of a lent list: a law for each way.
-- Assumes nothing.
use Prim.Native.Nat.{ℕ, ◌≤◌, ◌<◌}
use mathlib.Core.Path.{◌≡◌, ap, sym, ◌∙◌}
use mathlib.Core.List.{List}
use lib.IntN.{ℤ, pos, neg_ℤ}
use lib.ListN.{length, set}
use lib.Signed.{mag}
use mir.Syntax.{w32, w64}
use mir.Val.{SFits, to_z, of_z}
use mir.Facts.{to_z_pos}
use native.Mathlib.Omega.{arith}
use borrow.Author.Tests.{le-leb, lt-leb}
use Rattle.refusal.specs.Answer.{Answer, given, refused}
use Rattle.refusal.specs.Laws.Answers.{fails, holds}
use Rattle.period.specs.Laws.Signed.{same32}
use Rattle.crossing.specs.Answers.{one_number_of, with_place, placed, CountPlace}
use Rattle.crossing.specs.Laws.Calls.{told_refused}

module _ {A : Type 0} (value : A → ℕ) (count : A → ℤ) (a : Answer A) (list : List ℤ) {r : ℤ} (s : mag r < 9223372036854775808) where
  pub place_short : length list < 1 → r ≡ neg_ℤ (pos 14) → CountPlace value count a (to_z w64 (of_z w64 r)) list list
  unfolding with_place placed
  place_short h e =
      let o : refused 14 ≡ with_place list a = fails 14 _ _ (lt-leb 1 (length list) h) in
      record { answer = told_refused value s _ 14 e o; list_after_lem = ap (λ (y : Answer A). placed count y list) o }

  module _ (h : 1 ≤ length list) where
    pub place_refused : (n : ℕ) → a ≡ refused n → r ≡ neg_ℤ (pos n) → CountPlace value count a (to_z w64 (of_z w64 r)) list list
    unfolding with_place placed
    place_refused n p e =
        let o : refused n ≡ with_place list a = holds 14 _ _ _ (le-leb 1 (length list) h) (sym p) in
        record { answer = told_refused value s _ n e o; list_after_lem = ap (λ (y : Answer A). placed count y list) o }

module _ {A : Type 0} (value : A → ℕ) (count : A → ℤ) (a : Answer A) (list : List ℤ) (h : 1 ≤ length list) where
  pub place_given : (v : A) {n : ℕ} {z : ℤ} → n < 4294967296 → SFits w32 z → a ≡ given v → n ≡ value v → z ≡ count v → CountPlace value count a (to_z w64 n) list (set list 0 (to_z w32 (of_z w32 z)))
  unfolding with_place placed
  place_given v {n} {z} s f p e k =
      let o : given v ≡ with_place list a = holds 14 _ _ _ (le-leb 1 (length list) h) (sym p) in
      record {
        answer = to_z_pos w64 {n = n} (omega (arith, s)) ∙ ap pos e ∙ ap (one_number_of value) o;
        list_after_lem = rw (same32 z f) (ap (set list 0) k ∙ ap (λ (y : Answer A). placed count y list) o);
      }
