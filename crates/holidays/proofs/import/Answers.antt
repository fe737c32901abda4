use Rattle.holidays.proofs.ImportWays.{handed, import_refused, import_days, imports}
use Rattle.holidays.proofs.import.Goals as goal

pub returns-then-not-is_size : goal.returns-then-not-is_size
returns-then-not-is_size c = search imports

pub returns-in_err-count : goal.returns-in_err-count
returns-in_err-count c = rw (handed _ _ c.from_residual.ensures) (import_refused _ _ c.read_file.ensures _ c.in_err-count.was)

pub returns : goal.returns
returns c = import_days _ _ c.read_file.ensures _ c.in_ok-count.was c.write_days.ensures
