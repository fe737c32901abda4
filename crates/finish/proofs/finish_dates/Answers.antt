use Rattle.std.proofs.Common.{rules, refl, arith}
use Rattle.finish.proofs.Ending.{lent_stops, merge_stop, none_lent, pairs_stop, part_left, written_out}
use Rattle.finish.specs.Laws.Lending.{lent_beside, lent_between, lent_few, lent_of}
use Rattle.finish.proofs.finish_dates.Goals as goal

pub returns-in_err-lent_refusal : goal.returns-in_err-lent_refusal
returns-in_err-lent_refusal c = λ ok k s. lent_stops _ _ _ _ _ _ _ _ _ _ _ c.lent_refusal.ensures _ _ c.in_err-lent_refusal.was c.from_residual.ensures

pub pair_dates-requires : goal.pair_dates-requires
pair_dates-requires c =
    let z = none_lent c.lent_refusal.ensures _ c.in_ok-lent_refusal.was in
    (omega (arith, lent_between _ _ _ _ _ _ _ z refl), lent_beside _ _ _ _ _ _ _ z refl)

pub returns-in_err-pair_dates : goal.returns-in_err-pair_dates
returns-in_err-pair_dates c = λ ok k s. pairs_stop _ _ _ _ _ _ _ _ _ _ _ c.lent_refusal.ensures _ c.in_ok-lent_refusal.was _ _ _ (c.pair_dates.ensures ok k s) _ _ c.in_err-pair_dates.was c.from_residual-in_err-pair_dates.ensures

pub merge-requires : goal.merge-requires
merge-requires c =
    let z = none_lent c.lent_refusal.ensures _ c.in_ok-lent_refusal.was in
    omega (arith, lent_between _ _ _ _ _ _ _ z refl, lent_beside _ _ _ _ _ _ _ z refl)

pub returns-in_err-from : goal.returns-in_err-from
returns-in_err-from c = λ ok k s. merge_stop _ _ _ _ _ _ _ _ _ _ _ c.lent_refusal.ensures _ c.in_ok-lent_refusal.was _ _ _ (c.pair_dates.ensures ok k s) _ c.in_ok-pair_dates.was _ _ _ c.merge.ensures _ _ c.in_err-from.was c.from_residual-in_err-from.ensures

pub follow-requires : goal.follow-requires
follow-requires c =
    let z = none_lent c.lent_refusal.ensures _ c.in_ok-lent_refusal.was in
    let w = part_left _ _ _ _ _ c.merge.ensures _ c.in_ok-from.was in
    (w.0, omega (arith, w.1, lent_beside _ _ _ _ _ _ _ z refl))

pub copy_out-moved-requires : goal.copy_out-moved-requires
copy_out-moved-requires c =
    let z = none_lent c.lent_refusal.ensures _ c.in_ok-lent_refusal.was in
    let w = part_left _ _ _ _ _ c.merge.ensures _ c.in_ok-from.was in
    record {
      lent = lent_of _ _ _ _ _ _ _ _ _ _ z refl (search rules) (search rules) (search rules);
      from_lt_to = (w.0, omega (arith, w.1, lent_beside _ _ _ _ _ _ _ z refl));
    }

pub overflow_sub-count : goal.overflow_sub-count
overflow_sub-count c = omega (arith, (part_left _ _ _ _ _ c.merge.ensures _ c.in_ok-from.was).0)

pub overflow_cast-count : goal.overflow_cast-count
overflow_cast-count c =
    let z = none_lent c.lent_refusal.ensures _ c.in_ok-lent_refusal.was in
    let w = part_left _ _ _ _ _ c.merge.ensures _ c.in_ok-from.was in
    let few = lent_few _ _ _ _ _ _ _ z refl in
    record { fits = omega (arith, w.1, few, lent_beside _ _ _ _ _ _ _ z refl) }

pub returns : goal.returns
returns c = λ ok k s.
    let z = none_lent c.lent_refusal.ensures _ c.in_ok-lent_refusal.was in
    written_out _ _ _ _ _ _ _ _ _ _ _ c.lent_refusal.ensures _ c.in_ok-lent_refusal.was _ _ _ (c.pair_dates.ensures ok k s) _ c.in_ok-pair_dates.was _ _ _ c.merge.ensures _ _ _ _ _ _ _ _ c.in_ok-from.was (search rules) (omega (arith, lent_beside _ _ _ _ _ _ _ z refl)) c.follow.ensures c.copy_out-moved.ensures c.accepted.ensures
