use Rattle.std.proofs.Common.{ap, refl}
use Rattle.refusal.specs.Answer.{given}
use Rattle.refusal.specs.Laws.Answers.{handed_on}
use Rattle.desk.proofs.Ways.{count_small, no_room, place_put, place_refused, start_small, tells_refused, tells_run}
use Rattle.desk.proofs.write_place.Goals as goal

pub returns-then-out-lt2 : goal.returns-then-out-lt2
returns-then-out-lt2 c = no_room _ _ _ _ _ c.if-out-lt2.true refl

pub returns-in_err-found : goal.returns-in_err-found
returns-in_err-found c = place_refused _ _ _ _ _ c.if-out-lt2.false _ _ (handed_on _ _ c.from_residual.ensures) (tells_refused _ _ _ _ c.place.ensures _ c.in_err-found.was) refl

pub put-requires : goal.put-requires
put-requires c = let t = tells_run _ _ _ _ c.place.ensures _ c.in_ok-found.was in (c.if-out-lt2.false, start_small _ _ _ _ _ _ t, count_small _ _ _ _ _ _ t)

pub returns : goal.returns
returns c = let t = tells_run _ _ _ _ c.place.ensures _ c.in_ok-found.was in place_put _ _ _ _ _ c.if-out-lt2.false _ _ _ _ t (ap given c.put.ensures.0, c.put.ensures.1)
