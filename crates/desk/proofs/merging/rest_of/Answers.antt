use Rattle.desk.proofs.Turning.{rest_ok, slice_is}
use Rattle.desk.proofs.merging.rest_of.Goals as goal

pub invariant_of-result : goal.invariant_of-result
invariant_of-result c =
    let desk = c.args.lists.desk.now in
    let house = c.args.lists.house.now in
    record {
      desk_kept = rest_ok desk _ c.args.own c.args.lists.desk_kept (slice_is desk c.args.own);
      house_kept = rest_ok house _ c.args.next c.args.lists.house_kept (slice_is house c.args.next);
    }
