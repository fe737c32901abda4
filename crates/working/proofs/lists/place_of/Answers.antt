use Rattle.std.proofs.Common.{rules}
use Rattle.working.proofs.Puts.{place_back, place_forth}
use Rattle.working.proofs.lists.place_of.Goals as goal

pub returns-then-back : goal.returns-then-back
returns-then-back c = (search (place_back, place_forth, rules), search rules)

pub returns-else-back : goal.returns-else-back
returns-else-back c = (search (place_back, place_forth, rules), search rules)
