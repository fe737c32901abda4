use Rattle.working.proofs.Walking.{front_found}
use Rattle.working.proofs.walks.first_front.Goals as goal

pub returns : goal.returns
returns c = λ ok s. front_found _ _ _ _ _ (c.adjusted.ensures ok) _ c.unwrap_or.ensures
