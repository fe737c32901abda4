use Rattle.std.proofs.Common.{refl}
use Rattle.finish.specs.Laws.Lending.{written_as}
use Rattle.schedule.proofs.Building.{finish_is, lent_part, paid_part, part_is}
use Rattle.schedule.proofs.finish_part.Goals as goal

pub returns : goal.returns
returns c =
    let a = c.args in
    written_as _ _ _ _ _ _ _ _ _ _ (finish_is _ _ _ _ _ _ _ _ _ a.dates.now a.flags.now a.unadjusted.now (part_is _ _ _ _ c.requires.closed_value.1 refl c.requires.laid.lies.dates_end) (part_is _ _ _ _ c.requires.closed_value.2 refl c.requires.laid.lies.flags_end) (lent_part _ _ _ _ _ a.piece _ _ c.requires.closed_value.1 refl a.dates.now a.flags.now a.unadjusted.now c.requires.closed_value.2 refl c.requires.laid c.requires.dates_len.0 c.requires.dates_len.1)) (c.complete.ensures c.requires.closed_value.0 (paid_part _ _ _ _ _ a.piece _ 0 c.requires.closed_value.1 refl _ c.requires.laid) c.requires.laid.sure)
