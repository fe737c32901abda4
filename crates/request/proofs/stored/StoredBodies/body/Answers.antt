use Rattle.std.proofs.Common.{sym, ◌∙◌}
use Rattle.request.proofs.AskWays.{stored_nowhere, stored_without, stored_with}
use Rattle.request.proofs.stored.StoredBodies.body.Goals as goal

pub returns-then-lies : goal.returns-then-lies
returns-then-lies c = stored_with _ c.args.self.now.places.now _ c.args.self.now.count c.args.tag c.if-tag-lt12.true c.width_of-size.ensures (sym c.lies.ensures ∙ c.if-lies.true)

pub returns-else-lies : goal.returns-else-lies
returns-else-lies c = stored_without _ c.args.self.now.places.now _ c.args.self.now.count c.args.tag c.if-tag-lt12.true c.width_of-size.ensures (sym c.lies.ensures ∙ c.if-lies.false)

pub returns-else-tag-lt12 : goal.returns-else-tag-lt12
returns-else-tag-lt12 c = stored_nowhere _ c.args.self.now.places.now _ c.args.self.now.count c.args.tag c.if-tag-lt12.false
