use Rattle.printing.proofs.Putting.{date_put}
use Rattle.printing.proofs.lines.put_date.Goals as goal

pub returns : goal.returns
returns c = date_put _ _ c.fields_of-f.ensures c.put_two.ensures c.put_byte-last.ensures c.put_two-month.ensures c.put_byte-hyphen.ensures c.put_two-year.ensures c.put_two-century.ensures
