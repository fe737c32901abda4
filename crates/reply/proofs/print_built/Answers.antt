use Rattle.reply.proofs.Ways.{put_refusal, put_schedule}
use Rattle.reply.proofs.print_built.Goals as goal

pub returns-then-number-ne0 : goal.returns-then-number-ne0
returns-then-number-ne0 c = put_refusal _ _ _ _ c.if-number-ne0.true c.refusal.ensures

pub returns : goal.returns
returns c = put_schedule _ _ _ _ c.if-number-ne0.false c.schedule.ensures
