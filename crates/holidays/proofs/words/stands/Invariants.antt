use Rattle.holidays.proofs.NameWays.{Standing}
use Rattle.holidays.proofs.words.stands.Given as goal

abbrev pub invariant-loop-k : goal.invariant-loop-k
invariant-loop-k l = Standing l.file l.at l.word l.k
