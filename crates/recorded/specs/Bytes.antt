-- A build from request bytes: the request that they hold, and its closed dates.
-- Assumes nothing.
use Rattle.std.specs.Prelude.{ℕ, List, []}
use Rattle.refusal.specs.Answer.{Answer, given, refused}
use Rattle.steps.specs.declared.Request.{Request}
use Rattle.request.specs.Format.{Asked}

unfoldable pub request_in : Answer Asked → Answer Request
request_in (given a) = given a.request
request_in (refused n) = refused n

unfoldable pub closed_in : Answer Asked → List ℕ
closed_in (given a) = a.closed
closed_in (refused n) = []
