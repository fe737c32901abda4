-- A copy in place: a turn takes the first i elements to the first i + 1.
-- Assumes nothing.
use Rattle.std.proofs.Common.{◌≡◌, ℕ, ◌+◌, ◌≤◌, ◌<◌, List, ◌++◌, length, get_or, take, drop, set, refl, ap, ◌∙◌, sym, add-one, arith, rules}
use Rattle.std.proofs.Math.Seq.{paste-suc, take-length}
use native.Mathlib.Nat.{zero-add}
use lib.ListN.{length-set}

pub record Copied {A : Type 0} (src dst₀ dst : List A) (i : ℕ) : Type 0 where
  pub size : length dst ≡ length dst₀
  pub same : dst ≡ take i src ++ drop i dst₀

pub copied_none : {A : Type 0} (src dst : List A) → Copied src dst dst 0
copied_none src dst = record { size = refl; same = refl }

module _ {A : Type 0} {src dst₀ dst : List A} {i : ℕ} (c : Copied src dst₀ dst i) where
  pub copied_more : {x : A} → length src ≤ length dst₀ → i < length src → x ≡ get_or src i x → Copied src dst₀ (set dst i x) (i + 1)
  copied_more {x} l h e =
      record {
        size = length-set dst i x ∙ c.size;
        same =
            ap (λ (d : List A). set d i x) c.same
            ∙ ap (λ (y : A). set (take i src ++ drop i dst₀) i y) e
            ∙ rw (add-one i) (simp (zero-add) at (paste-suc dst₀ 0 src i x (omega arith) h));
      }

  pub copied_all : i ≡ length src → dst ≡ src ++ drop (length src) dst₀
  copied_all p = c.same ∙ rw p (rw (take-length src) refl)

pub ruleset copies = (copied_none, copied_more, copied_all, rules)
