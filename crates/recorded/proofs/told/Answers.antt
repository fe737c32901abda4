use Rattle.std.proofs.Common.{ap, rules}
use Rattle.refusal.specs.Answer.{answered_by}
use Rattle.recorded.proofs.Recording.{reported_built, reported_refused, reported_short}
use Rattle.recorded.proofs.told.Goals as goal

pub returns-then-answer-lt7 : goal.returns-then-answer-lt7
returns-then-answer-lt7 c = reported_short _ _ _ _ _ _ c.refused.type_inv c.if-answer-lt7.true c.refused.ensures

pub returns-in-Ok : goal.returns-in-Ok
returns-in-Ok c =
    reported_built _ _ _ _ _ _ (search rules) c.if-answer-lt7.false _ _ c.report.ensures.0 c.report.ensures.1
    _ _ _ _ (ap (answered_by _) c.in-Ok.is) c.build-built.ensures

pub returns-in-Err : goal.returns-in-Err
returns-in-Err c =
    reported_refused _ _ _ _ _ _ (search rules) c.if-answer-lt7.false _ _ c.report-in-Err.ensures.0 c.report-in-Err.ensures.1
    _ (ap (answered_by _) c.in-Err.is) c.refused-in-Err.ensures
