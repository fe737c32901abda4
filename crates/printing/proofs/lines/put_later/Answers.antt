use Rattle.std.proofs.Common.{arith}
use Rattle.printing.proofs.Putting.{date_ends, later_put, later_size}
use Rattle.printing.proofs.lines.put_later.Goals as goal

pub put_date-space-requires : goal.put_date-space-requires
put_date-space-requires c = omega (arith, later_size c.args.paid c.args.unadjusted c.args.letter, c.requires)

pub put_bytes-next-requires : goal.put_bytes-next-requires
put_bytes-next-requires c = omega (arith, later_size c.args.paid c.args.unadjusted c.args.letter, c.requires, date_ends _ c.put_date-space.ensures, c.put_date-space.ensures.size)

pub put_bracketed-last-requires : goal.put_bracketed-last-requires
put_bracketed-last-requires c = omega (arith, later_size c.args.paid c.args.unadjusted c.args.letter, c.requires, date_ends _ c.put_date-space.ensures, c.put_date-space.ensures.size, c.put_bytes-next.ensures.ends, c.put_bytes-next.ensures.size)

pub put_byte-requires : goal.put_byte-requires
put_byte-requires c = omega (arith, later_size c.args.paid c.args.unadjusted c.args.letter, c.requires, date_ends _ c.put_date-space.ensures, c.put_date-space.ensures.size, c.put_bytes-next.ensures.ends, c.put_bytes-next.ensures.size, c.put_bracketed-last.ensures.ends, c.put_bracketed-last.ensures.size)

pub returns : goal.returns
returns c = later_put _ _ _ c.put_date-space.ensures c.put_bytes-next.ensures c.put_bracketed-last.ensures c.put_byte.ensures
