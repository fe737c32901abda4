use Rattle.holidays.specs.Words.{ascii}
use Rattle.publishing.proofs.Putting.{event_put}
use Rattle.publishing.proofs.events.put_event.Goals as goal

pub returns : goal.returns
unfolding ascii
returns c = event_put _ _ c.put_bytes.ensures c.put_date-last.ensures c.put_bytes-stop.ensures c.put_date-end.ensures c.put_bytes-start.ensures c.put_date-stamp.ensures c.put_bytes-uid.ensures
