use Rattle.desk.proofs.Searching.{first_there}
use Rattle.desk.proofs.adjusting.first_in.Goals as goal

pub returns : goal.returns
returns c = first_there _ _ _ _ _ _ _ _ _ c.args.lists.desk_kept c.args.lists.house_kept c.requires c.held-run.ensures c.first_open.ensures
