use Rattle.std.proofs.Common.{length}
use Rattle.book.specs.Book.{lists}
use Rattle.book.proofs.Turning.{Going}
use Rattle.book.proofs.turns.take_turns.Given as goal

abbrev pub invariant-loop-request : goal.invariant-loop-request
invariant-loop-request l =
    Going l.bytes (lists l.initial.dates l.initial.flags l.initial.unadjusted l.initial.answers) (lists l.dates l.flags l.unadjusted l.answers) l.i l.start l.rest

abbrev pub decreases-loop-request : goal.decreases-loop-request
decreases-loop-request l = length l.rest
