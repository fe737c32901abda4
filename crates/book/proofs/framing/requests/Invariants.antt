use Rattle.std.proofs.Common.{length}
use Rattle.book.proofs.Framings.{Parted}
use Rattle.book.proofs.framing.requests.Given as goal

abbrev pub invariant-loop-rest : goal.invariant-loop-rest
invariant-loop-rest l = Parted l.bytes l.n l.rest

abbrev pub decreases-loop-rest : goal.decreases-loop-rest
decreases-loop-rest l = length l.rest
