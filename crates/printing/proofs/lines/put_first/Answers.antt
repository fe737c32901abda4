use Rattle.std.proofs.Common.{arith}
use Rattle.printing.proofs.Putting.{date_ends, first_put, first_size}
use Rattle.printing.proofs.lines.put_first.Goals as goal

pub put_date-next-requires : goal.put_date-next-requires
put_date-next-requires c = omega (arith, first_size c.args.paid c.args.unadjusted, c.requires)

pub put_bracketed-feed-requires : goal.put_bracketed-feed-requires
put_bracketed-feed-requires c = omega (arith, first_size c.args.paid c.args.unadjusted, c.requires, date_ends _ c.put_date-next.ensures, c.put_date-next.ensures.size)

pub put_byte-requires : goal.put_byte-requires
put_byte-requires c = omega (arith, first_size c.args.paid c.args.unadjusted, c.requires, date_ends _ c.put_date-next.ensures, c.put_date-next.ensures.size, c.put_bracketed-feed.ensures.ends, c.put_bracketed-feed.ensures.size)

pub returns : goal.returns
returns c = first_put _ _ c.put_date-next.ensures c.put_bracketed-feed.ensures c.put_byte.ensures
