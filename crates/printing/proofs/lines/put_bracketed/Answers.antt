use Rattle.std.proofs.Common.{arith}
use Rattle.printing.proofs.Putting.{bracketed_none, bracketed_put, bracketed_size, date_ends}
use Rattle.printing.proofs.lines.put_bracketed.Goals as goal

pub returns-then-paid-unadjusted : goal.returns-then-paid-unadjusted
returns-then-paid-unadjusted c = bracketed_none _ _ _ _ c.if-paid-unadjusted.true

pub put_bytes-inside-requires : goal.put_bytes-inside-requires
put_bytes-inside-requires c = omega (arith, bracketed_size _ _ c.if-paid-unadjusted.false, c.requires)

pub put_date-last-requires : goal.put_date-last-requires
put_date-last-requires c = omega (arith, bracketed_size _ _ c.if-paid-unadjusted.false, c.requires, c.put_bytes-inside.ensures.ends, c.put_bytes-inside.ensures.size)

pub put_byte-requires : goal.put_byte-requires
put_byte-requires c = omega (arith, bracketed_size _ _ c.if-paid-unadjusted.false, c.requires, c.put_bytes-inside.ensures.ends, c.put_bytes-inside.ensures.size, date_ends _ c.put_date-last.ensures, c.put_date-last.ensures.size)

pub returns : goal.returns
returns c = bracketed_put _ _ c.if-paid-unadjusted.false c.put_bytes-inside.ensures c.put_date-last.ensures c.put_byte.ensures
