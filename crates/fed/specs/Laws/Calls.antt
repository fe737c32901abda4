-- Calls from other languages are feeds in turn, so that the rule of `feeding` speaks of them.
-- Assumes nothing.
use Rattle.std.specs.Prelude.{List, [], ◌∷◌, ℕ, ℤ}
use Rattle.feeding.specs.Parts.{Turn, Turns, start, turn}
use Rattle.fed.specs.Words.{state_in}
use Rattle.fed.specs.Handed.{Renewed, Fed}

-- a reset begins
pub begun : (b : List ℕ) {x x' : List ℕ} {r : ℤ} → Renewed x r x' → Turns b [] (state_in x') b
begun b p = coe 1 0 (i. Turns b [] (p.state i) b) start

-- and each feed goes on
pub fed_on : {b b₁ b₂ x x' part closed closed' : List ℕ} {r : ℤ} {ts : List Turn} → Turns b ts (state_in x) b₁ → (f : Fed x part b₁ closed r x' b₂ closed')
    → Turns b (record { part = part; closed = closed; answer = f.said; closed_after = closed' } ∷ ts) (state_in x') b₂
fed_on t f = turn (record { part = _; closed = _; answer = f.said; closed_after = _ }) t f.feeds
