use Rattle.printing.proofs.Digits.{spellings}
use Rattle.printing.proofs.numbers.spell.Goals as goal

pub loop-left-init : goal.loop-left-init
loop-left-init c = search spellings

pub loop-left-preserved : goal.loop-left-preserved
loop-left-preserved c = search spellings

pub returns : goal.returns
returns c = search spellings
