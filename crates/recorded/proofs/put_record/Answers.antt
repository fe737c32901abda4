use Rattle.std.proofs.Common.{ap, nat_abs, ◌∙◌, rules}
use Rattle.period.specs.Laws.Signed.{same32}
use Rattle.steps.specs.Build.{over}
use Rattle.recorded.specs.Builds.{record_numbers}
use Rattle.recorded.proofs.put_record.Goals as goal

pub returns : goal.returns
unfolding over record_numbers
returns c =
    let size = c.size.ensures ∙ ap nat_abs (same32 c.args.b.tenor.length (record { sfits = search rules })) in
    search rules
