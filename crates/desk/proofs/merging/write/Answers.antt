use Rattle.std.proofs.Common.{length, rules, ◌≡◌}
use Rattle.desk.proofs.Turning.{count_all, fewer, laid_all, last_fits_in, laying_more, laying_none}
use Rattle.desk.proofs.merging.write.Goals as goal

pub loop-rest-init : goal.loop-rest-init
loop-rest-init c = laying_none _ _ _ c.args.lists.desk_kept c.args.lists.house_kept c.requires

pub loop-rest-smaller : goal.loop-rest-smaller
loop-rest-smaller c = fewer _ _ _ _ _ c.first_year-t.ensures _ c.rest_of-rest.ensures.0

pub loop-rest-preserved : goal.loop-rest-preserved
loop-rest-preserved c = laying_more c.loop-rest.invariant c.first_year-t.ensures c.copy.ensures c.copy-in-loop-rest.ensures c.rest_of-rest.ensures

pub copy-requires-2 : goal.copy-requires-2
copy-requires-2 c = last_fits_in c.loop-rest.invariant c.loop-rest.rest.house_kept (search rules)

pub returns : goal.returns
returns c = let h : length c.loop-rest.rest.desk.now ≡ 0 = search rules in (count_all c.loop-rest.invariant.counts c.loop-rest.rest.house_kept h, laid_all c.loop-rest.invariant c.loop-rest.rest.house_kept h c.copy-2.ensures)
