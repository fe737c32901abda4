use Rattle.std.proofs.Common.{◌≡◌, arith, ◌∙◌}
use Rattle.date.specs.Laws.Made.{given_day}
use Rattle.refusal.specs.Answer.{given}
use Rattle.date.proofs.Ends.{nth_over, nth_within}
use Rattle.date.specs.Date.{make_of}
use Rattle.date.specs.Laws.Moves.{until_at}
use Rattle.date.proofs.Date.nth_weekday.Goals as goal

pub overflow_add-on : goal.overflow_add-on
overflow_add-on c = record { fits = omega (arith, until_at _ _ _ c.days_until.ensures) }

pub returns-then-month_length-on : goal.returns-then-month_length-on
returns-then-month_length-on c =
    let a = c.args in
    let first : make_of a.year a.month 1 ≡ given c.in_ok-first.field-0.day = given_day _ _ _ c.make.ensures (c.in_ok-first.was) in
    nth_over _ _ _ _ _ _ (omega arith) (omega arith) (omega arith) (omega arith) first c.days_until.ensures (omega (arith, c.month_length.ensures))

pub returns : goal.returns
returns c =
    let a = c.args in
    let first : make_of a.year a.month 1 ≡ given c.in_ok-first.field-0.day = given_day _ _ _ c.make.ensures (c.in_ok-first.was) in
    c.within.ensures
    ∙ nth_within _ _ _ _ _ _ (omega arith) (omega arith) (omega arith) (omega arith) first c.days_until.ensures (omega (arith, c.month_length.ensures))
