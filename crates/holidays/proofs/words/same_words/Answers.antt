use Rattle.holidays.proofs.WordWays.{comparings}
use Rattle.holidays.proofs.words.same_words.Goals as goal

pub returns-in-None : goal.returns-in-None
returns-in-None c = search comparings

pub returns-then-capital : goal.returns-then-capital
returns-then-capital c = search comparings

pub loop-x-smaller : goal.loop-x-smaller
loop-x-smaller c = search comparings

pub loop-x-preserved : goal.loop-x-preserved
loop-x-preserved c = search comparings
