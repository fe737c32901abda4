use Rattle.crossing.proofs.Naming.{Writing}
use Rattle.crossing.proofs.names.put_letters.Given as goal

abbrev pub invariant-loop-k : goal.invariant-loop-k
invariant-loop-k l = Writing l.name l.initial.text l.text l.k
