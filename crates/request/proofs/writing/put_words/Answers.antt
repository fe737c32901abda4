use Rattle.request.proofs.PutWays.{words}
use Rattle.request.proofs.writing.put_words.Goals as goal

pub loop-j-init : goal.loop-j-init
loop-j-init c = search words

pub loop-j-preserved : goal.loop-j-preserved
loop-j-preserved c = search words
