use Rattle.std.proofs.Common.{arith, refl, ◌∙◌}
use Rattle.calendar.specs.Inner.Always.{on_as}
use Rattle.working.proofs.Walking.{going_start, walk_from, walk_full, walk_keep, walk_out, walk_past, walk_skip, walk_stop}
use Rattle.working.proofs.walks.turns.Goals as goal
use Rattle.working.proofs.walks.turns.Goals.{in-Skip, in-Keep+in_ok-m-in-Keep}

pub loop-k-init : goal.loop-k-init
loop-k-init c = (refl, refl, refl, λ b s. going_start _ _ _ _ _ _ _ _ _ _ c.newest.ensures b s)

pub returns-in-Stop : goal.returns-in-Stop
returns-in-Stop c = record { run = λ b. walk_from _ _ _ _ (on_as _ _ _ _ c.convention_on.ensures) _ _ _ _ b _ _ c.first_tip-first.ensures _ _ _ (λ p s. walk_stop (c.loop-k.invariant.3 p s) (omega arith) _ c.try_candidate-turn.ensures _ c.in-Stop.is) }

pub returns-in-Past : goal.returns-in-Past
returns-in-Past c = record { run = λ b. walk_from _ _ _ _ (on_as _ _ _ _ c.convention_on.ensures) _ _ _ _ b _ _ c.first_tip-first.ensures _ _ _ (λ p s. walk_past (c.loop-k.invariant.3 p s) (omega arith) _ c.try_candidate-turn.ensures c.in-Past.is) }

pub returns-in_err-m-in-Keep : goal.returns-in_err-m-in-Keep
returns-in_err-m-in-Keep c = record { run = λ b. walk_from _ _ _ _ (on_as _ _ _ _ c.convention_on.ensures) _ _ _ _ b _ _ c.first_tip-first.ensures _ _ _ (λ p s. walk_full (c.loop-k.invariant.3 p s) (omega arith) _ c.try_candidate-turn.ensures _ c.in-Keep.is _ _ c.put.ensures _ c.in_err-m-in-Keep.was _ _ c.from_residual.ensures) }

pub loop-k-preserved : goal.loop-k-preserved
loop-k-preserved c = (
  c.match-turn.auto.work ∙ c.loop-k.invariant.0,
  c.match-turn.auto.paid ∙ c.loop-k.invariant.1,
  c.match-turn.auto.marks ∙ c.loop-k.invariant.2,
  λ b s.
      elim c.match-turn.branch [
        | in-Skip w ↦ rw (w.work-is, w.marks-is, w.paid-is, w.n-is, w.known-is) (walk_skip (c.loop-k.invariant.3 b s) (omega arith) _ c.try_candidate-turn.ensures _ w.in-Skip.is)
        | in-Keep+in_ok-m-in-Keep w ↦ rw (w.work-is, w.marks-is, w.paid-is, w.n-is, w.known-is) (walk_keep (c.loop-k.invariant.3 b s) (omega arith) _ c.try_candidate-turn.ensures _ w.in-Keep.is _ _ w.put.ensures _ w.in_ok-m-in-Keep.was _ w.pay.ensures)
      ],
)

pub returns : goal.returns
returns c = record { run = λ b. walk_from _ _ _ _ (on_as _ _ _ _ c.convention_on.ensures) _ _ _ _ b _ _ c.first_tip-first.ensures _ _ _ (λ p s. walk_out (c.loop-k.invariant.3 p s) c.loop-k-test.false) }
