-- The loop that was run is the one that the definition says.
-- Assumes nothing.
use Rattle.std.specs.Prelude.{◌≡◌, refl, Bool, List, ℕ}
use Rattle.steps.specs.declared.Pace.{Pace}
use Rattle.steps.specs.declared.Seed.{Seed}
use Rattle.steps.specs.declared.Request.{Request}
use Rattle.steps.specs.Rules.{pace_of}
use Rattle.steps.specs.Candidates.{seed_of, turn_of}
use Rattle.steps.specs.Generate.{Lists, walk, candidates, last_try}

pub loop_is : (q : Request) (closed : List ℕ) (room : ℕ) (back : Bool) (pace : Pace) (seed : Seed) (day exit day' exit' : ℕ) (l : Lists) → pace ≡ pace_of q.tenor → seed ≡ seed_of q.monthend day → day ≡ day' → exit ≡ exit' → walk (turn_of q.mask closed q.convention back pace seed exit) room last_try 1 l ≡ candidates q closed room back day' exit' l
unfolding candidates last_try
loop_is q closed room back pace seed day exit day' exit' l a b c d = rw (a, b, c, d) refl
