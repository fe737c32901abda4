use Rattle.std.proofs.Common.{arith, sym, ◌∙◌}
use Rattle.working.proofs.Puts.{places_no, places_yes, put_full, put_ready}
use Rattle.working.proofs.lists.put.Goals as goal
use Rattle.working.proofs.lists.put.Goals.{then-room-n-via-then-room-n, then-room-n-via-else-room-n+then-not-has_place}

pub returns-then-room-n : goal.returns-then-room-n
returns-then-room-n c =
    record {
      run = λ p.
          elim c.then-room-n.branch [
            | then-room-n-via-then-room-n w ↦ put_full _ p _ _ w.if-room-n.true
            | then-room-n-via-else-room-n+then-not-has_place w ↦ absurd (places_no _ _ _ (sym w.has_place.ensures ∙ w.if-not-has_place.true) (omega (arith, p, w.if-room-n.false)) p.work_size p.marks_size)
          ];
    }

pub place_of-at-requires : goal.place_of-at-requires
place_of-at-requires c = (places_yes _ _ _ (sym c.has_place.ensures ∙ c.if-not-has_place.false)).0

pub bounds-work-at : goal.bounds-work-at
bounds-work-at c =
    let y = places_yes _ _ _ (sym c.has_place.ensures ∙ c.if-not-has_place.false) in
    omega (arith, y.1, c.place_of-at.ensures.1)

pub bounds-marks-at : goal.bounds-marks-at
bounds-marks-at c =
    let y = places_yes _ _ _ (sym c.has_place.ensures ∙ c.if-not-has_place.false) in
    omega (arith, y.2, c.place_of-at.ensures.1)

pub returns : goal.returns
returns c = record { run = λ p. put_ready _ p _ _ _ c.if-room-n.false c.place_of-at.ensures.0 }
