use Rattle.filed.proofs.Ways.{imports}
use Rattle.filed.proofs.import.Goals as goal

pub returns-then-line-eq0 : goal.returns-then-line-eq0
returns-then-line-eq0 c = search imports

pub returns-in-Ok : goal.returns-in-Ok
returns-in-Ok c = search imports

pub returns-in-Err : goal.returns-in-Err
returns-in-Err c = search imports
