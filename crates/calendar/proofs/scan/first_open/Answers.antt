use Rattle.std.proofs.Common.{ap, arith, not}
use Rattle.calendar.specs.Laws.Conventions.{span_from, span_to}
use Rattle.calendar.proofs.scan.first_open.Goals as goal

pub first_from-requires : goal.first_from-requires
first_from-requires c = (span_from _ _ c.in_span.ensures (ap not c.if-not-in_span.false), span_to _ _ c.in_span.ensures (ap not c.if-not-in_span.false), omega (arith, c.if-tries-gt-TRIES.false), c.lower_bound-place.ensures)
