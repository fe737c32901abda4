-- Document 02, L1: parts fed in turn, and all that was fed.
-- Assumes nothing.
use Rattle.std.specs.Prelude.{ℕ, List, [], ◌∷◌, ◌++◌, Option, Result}
use Rattle.feeding.specs.declared.State.{State}
use Rattle.refusal.specs.declared.Refusal.{Refusal}
use Rattle.request.specs.declared.Decoded.{Decoded}
use Rattle.feeding.specs.Feed.{fresh, Feeds}

-- feeds in turn from a reset, each as it promises, with any list lent for closed dates: the parts, the latest first, what each feed
-- answered and left in that list, the reader and the buffer
pub record Turn : Type 0 where
  pub part : List ℕ
  pub closed : List ℕ
  pub answer : Option (Result Decoded Refusal)
  pub closed_after : List ℕ

pub data Turns (b : List ℕ) : List Turn → State → List ℕ → Type 0 where
  start : Turns b [] fresh b
  turn : {ts : List Turn} {s : State} {b₁ : List ℕ} (t : Turn) {s' : State} {b₂ : List ℕ} → Turns b ts s b₁ → Feeds s t.part b₁ t.closed t.answer s' b₂ t.closed_after → Turns b (t ∷ ts) s' b₂

-- all that was fed, put together
unfoldable pub whole : List Turn → List ℕ
whole [] = []
whole (t ∷ ts) = whole ts ++ t.part
