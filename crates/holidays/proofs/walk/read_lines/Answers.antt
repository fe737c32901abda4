use Rattle.holidays.proofs.WalkWays.{walk_ways}
use Rattle.holidays.proofs.walk.read_lines.Goals as goal

pub returns-in-Err : goal.returns-in-Err
returns-in-Err c = search walk_ways

pub returns-then-s-file : goal.returns-then-s-file
returns-then-s-file c = search walk_ways

pub loop-refusal-smaller : goal.loop-refusal-smaller
loop-refusal-smaller c = search walk_ways

pub loop-refusal-preserved : goal.loop-refusal-preserved
loop-refusal-preserved c = search walk_ways
