use Rattle.std.proofs.Common.{arith}
use Rattle.request.proofs.FindWays.{finds, reached_on}
use Rattle.request.proofs.fields.find.Goals as goal

pub loop-tag-init : goal.loop-tag-init
loop-tag-init c = search finds

pub returns-in-Broken : goal.returns-in-Broken
returns-in-Broken c = search finds

pub returns-in-End : goal.returns-in-End
returns-in-End c = search finds

pub bounds-places-tag : goal.bounds-places-tag
bounds-places-tag c = search finds

pub overflow_add-at-in-Next : goal.overflow_add-at-in-Next
overflow_add-at-in-Next c = record { fits = omega (arith, reached_on c.loop-tag.invariant c.next_field.ensures _ _ c.in-Next.is) }

pub loop-tag-smaller : goal.loop-tag-smaller
loop-tag-smaller c = search finds

pub loop-tag-preserved : goal.loop-tag-preserved
loop-tag-preserved c = search finds
