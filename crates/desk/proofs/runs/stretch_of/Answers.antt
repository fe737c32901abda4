use Rattle.desk.proofs.Ways.{last_fits, part_there}
use Rattle.desk.proofs.runs.stretch_of.Goals as goal

pub overflow_add-last_of : goal.overflow_add-last_of
overflow_add-last_of c = record { fits = last_fits _ _ c.requires.1 (c.last_of.ensures c.requires.1) }

pub returns : goal.returns
returns c = let s = c.requires in part_there _ _ _ _ _ _ s.0 s.1 (c.first_of.ensures s.1) (c.last_of.ensures s.1) c.lower_bound-start.ensures c.place_near-end.ensures
