use Rattle.finish.proofs.Merging.{fronts}
use Rattle.finish.proofs.merges.merge_front.Goals as goal

pub returns-then-dates-lt2 : goal.returns-then-dates-lt2
returns-then-dates-lt2 c = search fronts

pub returns-then-first-next : goal.returns-then-first-next
returns-then-first-next c = search fronts

pub returns-then-dates-lt3 : goal.returns-then-dates-lt3
returns-then-dates-lt3 c = search fronts

pub returns : goal.returns
returns c = search fronts
