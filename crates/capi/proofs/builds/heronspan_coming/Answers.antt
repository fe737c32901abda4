use Rattle.std.proofs.Common.{ap, ◌∙◌}
use Rattle.refusal.specs.Answer.{Answer, then}
use Rattle.steps.specs.declared.Request.{Request}
use Rattle.coming.specs.Coming.{coming_of}
use Rattle.crossing.specs.Answers.{marked, one_number_of}
use Rattle.crossing.specs.Laws.Calls.{coming_number, handed, same_count}
use Rattle.crossing.specs.Requests.{request_of}
use Rattle.capi.proofs.builds.heronspan_coming.Goals as goal

pub returns : goal.returns
returns c =
    let a = c.args in
    let request = same_count (λ z. request_of a.effective a.termination z a.unit a.rule a.convention a.terminal a.monthend a.first a.penultimate a.mask) _ _ c.ranges.tenor c.request_of-request.ensures in
    handed _ c.one_number.type_inv
    (c.one_number.ensures ∙ coming_number _
    ∙ ap (one_number_of marked) (c.after.ensures ∙ ap (λ (r : Answer Request). then r (λ q. coming_of q a.closed.now a.asked)) request))
