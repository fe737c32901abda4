use Rattle.working.proofs.Additions.{new_closed, new_put, new_same, new_stop}
use Rattle.working.proofs.adds.put_new.Goals as goal

pub returns-in_err-a : goal.returns-in_err-a
returns-in_err-a c =
    record {
      run = λ l.
          new_stop _ _ _ _ _ l _ _ c.newest-newest.ensures _ c.front_of.ensures _ c.in_err-a.was _ c.from_residual.ensures;
    }

pub returns-in_err-b : goal.returns-in_err-b
returns-in_err-b c =
    record {
      run = λ l.
          new_closed _ _ _ _ _ l _ _ c.newest-newest.ensures _ c.front_of.ensures _ c.in_ok-a.was _ c.adjusted.ensures _ c.in_err-b.was _ c.from_residual-in_err-b.ensures;
    }

pub returns-then-a-b : goal.returns-then-a-b
returns-then-a-b c =
    record {
      run = λ l.
          new_same _ _ _ _ _ l _ _ c.newest-newest.ensures _ c.front_of.ensures _ c.in_ok-a.was _ c.adjusted.ensures _ c.in_ok-b.was c.if-a-b.true;
    }

pub returns : goal.returns
returns c =
    record {
      run = λ l.
          new_put _ _ _ _ _ l _ _ c.newest-newest.ensures _ c.front_of.ensures _ c.in_ok-a.was _ c.adjusted.ensures _ c.in_ok-b.was _ _ _ c.if-a-b.false c.put_front.ensures;
    }
