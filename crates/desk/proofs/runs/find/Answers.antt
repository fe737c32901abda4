use Rattle.desk.proofs.Ways.{stands_desk, stands_house, stands_none}
use Rattle.desk.proofs.runs.find.Goals as goal

pub returns-then-own : goal.returns-then-own
returns-then-own c = stands_desk _ _ _ c.stretch_of-own.ensures c.if-own.true

pub returns-then-other : goal.returns-then-other
returns-then-other c = stands_house _ _ _ c.stretch_of-own.ensures c.if-own.false c.stretch_of-other.ensures c.if-other.true

pub returns : goal.returns
returns c = stands_none _ _ _ c.stretch_of-own.ensures c.if-own.false c.stretch_of-other.ensures c.if-other.false
