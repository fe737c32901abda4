use Rattle.publishing.proofs.Putting.{date_put}
use Rattle.publishing.proofs.puts.put_date.Goals as goal

pub returns : goal.returns
returns c = date_put _ _ c.fields_of-f.ensures c.put_two.ensures c.put_two-last.ensures c.put_two-month.ensures c.put_two-year.ensures
