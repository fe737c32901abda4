use Rattle.std.proofs.Common.{sym, ◌∙◌, eqb-true}
use Rattle.publishing.proofs.Runs.{laid_none, layings}
use Rattle.publishing.proofs.events.put_events.Goals as goal

pub returns-then-is_empty : goal.returns-then-is_empty
returns-then-is_empty c = laid_none _ _ _ (eqb-true _ 0 (sym c.is_empty.ensures ∙ c.if-is_empty.true))

pub put_event-next-requires : goal.put_event-next-requires
put_event-next-requires c = search layings

pub put_event-requires : goal.put_event-requires
put_event-requires c = search layings

pub returns : goal.returns
returns c = search layings
