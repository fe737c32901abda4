use Rattle.request.proofs.Signs.{signs}
use Rattle.request.proofs.numbers.signed.Goals as goal

pub returns-then-n-lt32768 : goal.returns-then-n-lt32768
returns-then-n-lt32768 c = search signs

pub returns : goal.returns
returns c = search signs
