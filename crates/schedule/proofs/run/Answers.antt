use Rattle.std.proofs.Common.{ap, ◌∙◌}
use Rattle.steps.specs.Build.{refused_built}
use Rattle.finish.specs.Laws.Lending.{written_as}
use Rattle.schedule.proofs.Building.{refusal_written, run_laid, run_on, run_stop}
use Rattle.schedule.proofs.run.Goals as goal

pub returns-in-Err : goal.returns-in-Err
returns-in-Err c = refusal_written _ _ _ _ _ _ _ (c.refused.ensures ∙ ap refused_built c.number.ensures) (run_stop _ _ _ _ _ _ c.generate.ensures c.min-room.ensures _ c.in-Err.is)

pub returns-in-Ok : goal.returns-in-Ok
returns-in-Ok c = written_as _ _ _ _ _ _ _ _ _ _ (run_on _ _ _ _ _ _ c.generate.ensures c.min-room.ensures _ c.in-Ok.is) c.finish_part.ensures

pub finish_part-requires-clause-laid : goal.finish_part-requires-clause-laid
finish_part-requires-clause-laid c = run_laid _ _ _ _ _ _ c.generate.ensures c.min-room.ensures _ c.in-Ok.is
