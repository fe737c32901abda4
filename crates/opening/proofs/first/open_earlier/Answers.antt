use Rattle.date.specs.Date.{shifted}
use Rattle.steps.specs.Generate.{put_earlier}
use Rattle.working.specs.Dates.{dated_on, dated_stops, regrouped}
use Rattle.opening.proofs.first.open_earlier.Goals as goal

pub returns-in_err-earlier : goal.returns-in_err-earlier
unfolding put_earlier shifted
returns-in_err-earlier c = record { run = λ p. regrouped _ _ _ (dated_stops _ _ _ _ c.shift_by.ensures c.in_err-earlier.was _ c.from_residual.ensures) }

pub returns : goal.returns
unfolding put_earlier shifted
returns c = record { run = λ p. regrouped _ _ _ (dated_on _ _ _ _ c.shift_by.ensures c.in_ok-earlier.was (c.put_two.ensures.run p)) }
