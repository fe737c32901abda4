use Rattle.publishing.proofs.Whole.{ways}
use Rattle.publishing.proofs.export.Goals as goal

pub returns-then-not-keep_rule : goal.returns-then-not-keep_rule
returns-then-not-keep_rule c = search ways

pub returns-then-runs-gt495 : goal.returns-then-runs-gt495
returns-then-runs-gt495 c = search ways

pub returns-then-file-runs : goal.returns-then-file-runs
returns-then-file-runs c = search ways

pub overflow_cast-result : goal.overflow_cast-result
overflow_cast-result c = search ways

pub returns : goal.returns
returns c = search ways
