use Rattle.holidays.proofs.WalkWays.{line_before, line_goes, line_ways}
use Rattle.holidays.proofs.walk.one_line.Goals as goal

pub returns-then-blank : goal.returns-then-blank
returns-then-blank c = search line_ways

pub advance-requires-2 : goal.advance-requires-2
advance-requires-2 c = line_before _ _ _ _ _ c.take_turn.ensures _ c.in_ok-s.was

pub returns : goal.returns
returns c = line_goes _ _ _ _ _ c.take_turn.ensures _ c.in_ok-s.was c.advance-2.ensures
