use Rattle.std.proofs.Common.{ℕ, ltb, arith, rules}
use Rattle.std.proofs.lemmas.List.Sorted.{IsPartitionPoint-from_clause}
use Rattle.calendar.proofs.Places.{bisected, parted, part_size}
use Rattle.calendar.proofs.closed_dates.bisect.Goals as goal

pub returns : goal.returns
returns c =
    let b = c.requires in
    bisected b _ (omega (arith, part_size b, c.partition_point.ensures.bound)) (λ ok. IsPartitionPoint-from_clause (λ (d : ℕ). ltb d c.args.x) _ _ c.partition_point.ensures.partitioned (parted b ok) (λ a r q k. search rules))
