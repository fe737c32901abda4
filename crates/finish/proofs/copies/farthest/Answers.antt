use Rattle.std.proofs.Common.{rules, length, refl, ◌∙◌, length-append}
use Rattle.std.proofs.lemmas.Slice.Zip.{zip_turn}
use Rattle.steps.specs.Entries.{apart, farthest}
use Rattle.finish.proofs.Far.{far_more}
use Rattle.finish.proofs.copies.farthest.Goals as goal

pub loop-a-init : goal.loop-a-init
unfolding farthest
loop-a-init c = refl

pub loop-a-preserved : goal.loop-a-preserved
unfolding apart
loop-a-preserved c =
    let t = zip_turn c.args.paid.now c.args.unadjusted.now c.loop-a.yielded c.into_iter-a-iterator.result c.loop-a.a-iterator c.next.new.self c.next.result (search rules) (search rules) c.loop-a.yielded_by _ c.in-Some.is c.next.ensures.steps in
    rw (length-append c.loop-a.yielded _)
    (far_more c.args.paid.now c.args.unadjusted.now c.loop-a.most (length c.loop-a.yielded) c.loop-a.invariant c.abs_diff.result c.max-most.result t.0 t.1 (c.abs_diff.ensures ∙ rw (t.2 0, t.3 0)) c.max-most.ensures)
