use Rattle.book.proofs.Turning.{put_built, put_refused}
use Rattle.book.proofs.turns.put_answer.Goals as goal

pub returns-then-built-ne0 : goal.returns-then-built-ne0
returns-then-built-ne0 c = put_refused _ _ _ c.requires c.if-built-ne0.true

pub returns : goal.returns
returns c = put_built _ _ _ c.requires c.if-built-ne0.false
