use Rattle.std.proofs.Common.{◌≡◌, ◌+◌, ◌-◌, arith, subst, ℕ, ◌∙◌}
use Rattle.calendar.proofs.Ways.{Steps, steps_end, steps_next, steps_refused, steps_start}
use Rattle.date.specs.Laws.Made.{day_handed_on}
use Rattle.calendar.proofs.advances.step_open.Goals as goal

pub loop-init : goal.loop-init
loop-init c =
    let a = c.args in
    let e : a.size ≡ a.size - 0 = omega arith in
    subst (λ (left : ℕ). Steps a.mask a.closed.now a.back a.size a.day left a.day) e steps_start

pub loop-preserved : goal.loop-preserved
loop-preserved c =
    let a = c.args in
    let next = steps_next c.loop.invariant (omega arith) {next = c.neighbour.result} c.neighbour.ensures {x = c.in_ok-at.field-0} c.in_ok-at.was in
    let e : a.size - c.loop.counter - 1 ≡ a.size - (c.loop.counter + 1) = omega arith in
    subst (λ (left : ℕ). Steps a.mask a.closed.now a.back a.size a.day left c.in_ok-at.field-0.day) e next

pub returns-in_err-at : goal.returns-in_err-at
returns-in_err-at c =
    λ ok. day_handed_on _ _ c.from_residual.ensures
    ∙ steps_refused c.loop.invariant (omega arith) {next = c.neighbour.result} c.neighbour.ensures _ c.in_err-at.was ok

pub returns : goal.returns
returns c = λ ok. steps_end c.loop.invariant (omega arith) ok
