use Rattle.finish.proofs.Merging.{ends}
use Rattle.finish.proofs.merges.merge_end.Goals as goal

pub returns-then-n-lt2 : goal.returns-then-n-lt2
returns-then-n-lt2 c = search ends

pub returns-then-former-last : goal.returns-then-former-last
returns-then-former-last c = search ends

pub returns-then-n-lt3 : goal.returns-then-n-lt3
returns-then-n-lt3 c = search ends

pub returns : goal.returns
returns c = search ends
