-- How far dates moved: a turn takes the greatest of the first i places to that of the first i + 1.
-- Assumes nothing.
use Rattle.std.proofs.Common.{◌≡◌, ℕ, ◌+◌, ◌<◌, max, List, length, get_or, take, sym, ◌∙◌, refl, add-one}
use Rattle.std.proofs.Math.Seq.{take-length}
use Rattle.steps.specs.Entries.{apart, farthest}
use Rattle.steps.specs.Laws.Farthest.{one_more}

module _ (ps gs : List ℕ) (most i : ℕ) (so : most ≡ farthest (take i ps) (take i gs)) where
  pub far_more : (a m : ℕ) → i < length ps → i < length gs → a ≡ apart (get_or ps i 0) (get_or gs i 0) → m ≡ max most a → m ≡ farthest (take (i + 1) ps) (take (i + 1) gs)
  far_more a m h k e f = f ∙ rw (e, so, add-one i) (sym (one_more ps gs i h k))

  pub far_all : length ps ≡ length gs → i ≡ length ps → most ≡ farthest ps gs
  far_all e h = so ∙ (rw h (rw (take-length ps) (rw e (rw (take-length gs) refl))))
