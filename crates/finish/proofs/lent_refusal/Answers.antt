use Rattle.std.proofs.Common.{arith}
use Rattle.finish.specs.Laws.Lending.{no_room, room_for, uneven_lent, uneven_marks, uneven_paid, uneven_third}
use Rattle.refusal.specs.Answer.{number}
use Rattle.finish.proofs.lent_refusal.Goals as goal

pub returns-then-dates-flags : goal.returns-then-dates-flags
unfolding number
returns-then-dates-flags c = uneven_lent _ _ _ _ _ _ c.if-dates-flags.true

pub returns-then-dates-unadjusted : goal.returns-then-dates-unadjusted
unfolding number
returns-then-dates-unadjusted c = uneven_third _ _ _ _ _ _ c.if-dates-flags.false c.if-dates-unadjusted.true

pub returns-then-work-paid : goal.returns-then-work-paid
unfolding number
returns-then-work-paid c = uneven_paid _ _ _ _ _ _ c.if-dates-flags.false c.if-dates-unadjusted.false c.if-work-paid.true

pub returns-then-work-eq0 : goal.returns-then-work-eq0
unfolding number
returns-then-work-eq0 c = uneven_marks _ _ _ _ _ _ c.if-dates-flags.false c.if-dates-unadjusted.false c.if-work-paid.false (λ e. omega (arith, e, c.if-work-eq0.true))

pub returns-then-work-marks : goal.returns-then-work-marks
unfolding number
returns-then-work-marks c = uneven_marks _ _ _ _ _ _ c.if-dates-flags.false c.if-dates-unadjusted.false c.if-work-paid.false (λ e. c.if-work-marks.true (omega (arith, e)))

pub returns-then-work-gt4096 : goal.returns-then-work-gt4096
unfolding number
returns-then-work-gt4096 c = no_room _ _ _ _ _ _ c.if-dates-flags.false c.if-dates-unadjusted.false c.if-work-paid.false (omega (arith, c.if-work-marks.false, c.if-work-eq0.false)) (omega (arith, c.if-work-gt4096.true))

pub returns-then-dates-work : goal.returns-then-dates-work
unfolding number
returns-then-dates-work c = no_room _ _ _ _ _ _ c.if-dates-flags.false c.if-dates-unadjusted.false c.if-work-paid.false (omega (arith, c.if-work-marks.false, c.if-work-eq0.false)) (omega (arith, c.if-dates-work.true))

pub returns : goal.returns
unfolding number
returns c = room_for _ _ _ _ _ _ c.if-dates-flags.false c.if-dates-unadjusted.false c.if-work-paid.false (omega (arith, c.if-work-marks.false, c.if-work-eq0.false)) (omega (arith, c.if-dates-work.false, c.if-work-gt4096.false))
