use Rattle.std.proofs.Common.{rules}
use Rattle.request.proofs.AskWays.{placed_none, placed_some}
use Rattle.request.proofs.PlacedBodies.body.Goals as goal

pub returns-then-place-eq0 : goal.returns-then-place-eq0
returns-then-place-eq0 c = placed_none _ c.args.self.now.places.now _ c.args.tag (search rules) c.if-place-eq0.true

pub returns : goal.returns
returns c = placed_some _ c.args.self.now.places.now _ c.args.tag (search rules) c.if-place-eq0.false c.pair_at-size.ensures
