use Rattle.std.proofs.Common.{arith, sym, ◌∙◌}
use Rattle.working.proofs.Puts.{newest_at, newest_none, places_no, places_yes}
use Rattle.working.proofs.lists.newest.Goals as goal

pub returns-then-n-eq0 : goal.returns-then-n-eq0
returns-then-n-eq0 c = λ s h. newest_none _ _ _ s c.if-n-eq0.true

pub place_of-at-requires : goal.place_of-at-requires
place_of-at-requires c = (places_yes _ _ _ (sym c.has_place.ensures ∙ c.if-has_place.true)).0

pub bounds-work-at : goal.bounds-work-at
bounds-work-at c =
    let y = places_yes _ _ _ (sym c.has_place.ensures ∙ c.if-has_place.true) in
    omega (arith, y.1, c.place_of-at.ensures.1)

pub returns-then-has_place : goal.returns-then-has_place
returns-then-has_place c =
    λ s h.
    newest_at _ _ _ _ s (omega (arith, c.if-n-eq0.false)) h c.place_of-at.ensures.0

pub returns : goal.returns
returns c = λ s h. absurd (places_no _ _ _ (sym c.has_place.ensures ∙ c.if-has_place.false) (omega (arith, c.if-n-eq0.false)) s s)
