-- What `decode` promises: its answer, and what the lent list then holds.
-- Assumes nothing.
use Rattle.std.specs.Prelude.{ℕ, ◌≡◌, List, length, Result}
use Rattle.refusal.specs.declared.Refusal.{Refusal}
use Rattle.refusal.specs.Answer.{Answer, given, refused, answered}
use Rattle.steps.specs.Build.{over}
use Rattle.request.specs.declared.Decoded.{Decoded}
use Rattle.request.specs.Format.{Asked}

-- the request, and how many closed dates it has
unfoldable pub counted : Answer Asked → Answer Decoded
counted (given a) = given (record { request = a.request; closed = length a.closed })
counted (refused n) = refused n

unfoldable pub closed_dates_after : Answer Asked → List ℕ → List ℕ
closed_dates_after (given a) old = over a.closed old
closed_dates_after (refused n) old = old

pub record Decodes (o : Answer Asked) (r : Result Decoded Refusal) (list list' : List ℕ) : Type 0 where
  pub answer : answered r ≡ counted o
  pub dates : list' ≡ closed_dates_after o list
