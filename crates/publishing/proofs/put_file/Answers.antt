use Rattle.holidays.specs.Words.{ascii}
use Rattle.publishing.proofs.Whole.{file_put, last_room}
use Rattle.publishing.proofs.put_file.Goals as goal

pub put_bytes-requires : goal.put_bytes-requires
put_bytes-requires c = last_room _ c.args.file.now c.put_events-last.ensures c.put_bytes-first.ensures.ends c.put_bytes-first.ensures.size c.requires.list_in_bounds

pub returns : goal.returns
unfolding ascii
returns c = file_put _ c.put_bytes.ensures c.put_events-last.ensures c.put_bytes-first.ensures
