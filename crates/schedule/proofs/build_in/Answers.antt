use Rattle.schedule.proofs.Building.{run_checked, run_whole, turned_away}
use Rattle.schedule.proofs.build_in.Goals as goal

pub returns-in-Err : goal.returns-in-Err
returns-in-Err c = turned_away _ _ _ _ _ _ c.check_input.ensures _ _ _ c.in-Err.is c.number.ensures c.refused.ensures

pub run-requires : goal.run-requires
run-requires c = let all = run_checked _ _ _ _ _ _ c.check_input.ensures _ c.in_default.is in record { checked = all.0; dates_len = all.1 }

pub returns : goal.returns
returns c = run_whole _ _ _ _ _ _ c.check_input.ensures _ c.in_default.is _ _ _ _ c.run.ensures
