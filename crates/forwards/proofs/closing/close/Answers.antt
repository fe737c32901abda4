use Rattle.forwards.proofs.Forthing.{close_closed, close_full, close_put, close_same, close_stop}
use Rattle.forwards.proofs.closing.close.Goals as goal

pub returns-in_err-a : goal.returns-in_err-a
returns-in_err-a c = record { run = λ p. close_stop _ _ c.args.tip p _ c.newest-day.ensures _ c.newest_paid.ensures _ c.in_err-a.was _ c.from_residual.ensures }

pub returns-in_err-b : goal.returns-in_err-b
returns-in_err-b c = record { run = λ p. close_closed _ _ c.args.tip p _ c.newest-day.ensures _ c.newest_paid.ensures _ c.in_ok-a.was _ c.adjusted.ensures _ c.in_err-b.was _ c.from_residual-in_err-b.ensures }

pub returns-then-a-b : goal.returns-then-a-b
returns-then-a-b c = record { run = λ p. close_same _ _ c.args.tip p _ c.newest-day.ensures _ c.newest_paid.ensures _ c.in_ok-a.was _ c.adjusted.ensures _ c.in_ok-b.was c.if-a-b.true }

pub returns-in_err-n : goal.returns-in_err-n
returns-in_err-n c = record { run = λ p. close_full _ _ c.args.tip p _ c.newest-day.ensures _ c.newest_paid.ensures _ c.in_ok-a.was _ c.adjusted.ensures _ c.in_ok-b.was c.if-a-b.false _ c.put_closing.ensures _ c.in_err-n.was _ c.from_residual-in_err-n.ensures }

pub returns : goal.returns
returns c = record { run = λ p. close_put _ _ c.args.tip p _ c.newest-day.ensures _ c.newest_paid.ensures _ c.in_ok-a.was _ c.adjusted.ensures _ c.in_ok-b.was c.if-a-b.false _ c.put_closing.ensures _ c.in_ok-n.was }
