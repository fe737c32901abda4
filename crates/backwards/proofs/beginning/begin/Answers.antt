use Rattle.backwards.proofs.Backing.{penultimate_absent, seeded}
use Rattle.working.specs.Step.{step_on, step_stops}
use Rattle.backwards.proofs.beginning.begin.Goals as goal

pub returns-in_err-n : goal.returns-in_err-n
returns-in_err-n c = record { run = λ p. step_stops _ _ c.put_first.ensures _ c.in_err-n.was p _ c.from_residual.ensures }

pub returns-then-anchor-eq0 : goal.returns-then-anchor-eq0
returns-then-anchor-eq0 c = record { run = λ p. step_on _ _ c.put_first.ensures _ c.in_ok-n.was p (λ k. penultimate_absent _ _ k _ c.if-anchor-eq0.true) }

pub returns : goal.returns
returns c = record { run = λ p. step_on _ _ c.put_first.ensures _ c.in_ok-n.was p (λ k. seeded _ _ _ _ _ _ c.seed_of-seed.ensures (c.put_penultimate.ensures.run k)) }
