use Rattle.std.proofs.Common.{◌≡◌, length, take}
use Rattle.steps.specs.Entries.{farthest}
use Rattle.finish.proofs.copies.farthest.Given as goal

abbrev pub invariant-loop-a : goal.invariant-loop-a
invariant-loop-a l = l.most ≡ farthest (take (length l.yielded) l.paid) (take (length l.yielded) l.unadjusted)
