use Rattle.std.proofs.Common.{◌∙◌}
use Rattle.crossing.proofs.Naming.{far_named, number_unnamed, refusal_named, value_named}
use Rattle.crossing.specs.Laws.Calls.{same_name}
use Rattle.crossing.proofs.names.name_in.Goals as goal

pub returns-then-answer-ge0-clause-name : goal.returns-then-answer-ge0-clause-name
returns-then-answer-ge0-clause-name c = value_named _ c.if-answer-ge0.true ∙ same_name _ c.ranges.answer

pub returns-then-number-gt255-clause-name : goal.returns-then-number-gt255-clause-name
returns-then-number-gt255-clause-name c = far_named _ c.if-answer-ge0.false c.unsigned_abs-number.ensures.value c.if-number-gt255.true ∙ same_name _ c.ranges.answer

pub returns-in-Ok-clause-name : goal.returns-in-Ok-clause-name
returns-in-Ok-clause-name c = refusal_named _ c.if-answer-ge0.false c.unsigned_abs-number.ensures.value _ c.in-Ok.ensures c.name.ensures ∙ same_name _ c.ranges.answer

pub returns-in-Err-clause-name : goal.returns-in-Err-clause-name
returns-in-Err-clause-name c = number_unnamed _ c.if-answer-ge0.false c.unsigned_abs-number.ensures.value c.in-Err.ensures.1 ∙ same_name _ c.ranges.answer
