use Rattle.std.proofs.Common.{arith, rules}
use Rattle.book.proofs.Turning.{going_none, going_fits, going_on, going_over, going_small}
use Rattle.book.proofs.turns.take_turns.Goals as goal

pub loop-request-init : goal.loop-request-init
loop-request-init c = going_none c.requires

pub turn-count-requires : goal.turn-count-requires
turn-count-requires c = going_fits c.loop-request.invariant _ _ c.in-Some.ensures

pub overflow_add-start : goal.overflow_add-start
overflow_add-start c =
    let small = going_small c.loop-request.invariant _ _ c.in-Some.ensures _ _ c.turn-count.ensures in
    omega (arith, small)

pub loop-request-preserved : goal.loop-request-preserved
loop-request-preserved c =
    going_on c.loop-request.invariant _ _ c.in-Some.ensures _ _ c.turn-count.ensures
    (record {
      dates = search rules;
      flags = search rules;
      unadjusted = search rules;
      answers = search rules;
    })

pub returns : goal.returns
returns c = going_over c.loop-request.invariant c.in_default.ensures
