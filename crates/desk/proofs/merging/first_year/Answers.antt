use Rattle.desk.proofs.Turning.{first_ends, turn_there}
use Rattle.desk.proofs.merging.first_year.Goals as goal

pub overflow_add-after : goal.overflow_add-after
overflow_add-after c = record { fits = first_ends _ _ c.args.lists.desk_kept c.requires c.fields_of-f.ensures _ c.last_of-after.ensures }

pub returns : goal.returns
returns c = turn_there _ _ _ _ _ _ _ _ c.args.lists.desk_kept c.args.lists.house_kept c.requires c.fields_of-f.ensures c.first_of-first.ensures c.last_of-after.ensures c.place_near-front.ensures c.place_near-own.ensures c.place_near-next.ensures
