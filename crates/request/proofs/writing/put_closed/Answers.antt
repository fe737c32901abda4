use Rattle.request.proofs.PutWays.{closed_laid}
use Rattle.request.proofs.writing.put_closed.Goals as goal

pub returns : goal.returns
returns c = closed_laid _ _ _ _ _ c.put_head.ensures c.put_words.ensures c.put_head-2.ensures
