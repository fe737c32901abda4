use Rattle.std.proofs.Common.{arith, sym, ◌∙◌}
use Rattle.working.proofs.Puts.{places_no, places_yes}
use Rattle.working.proofs.lists.pay.Goals as goal

pub place_of-at-requires : goal.place_of-at-requires
place_of-at-requires c = (places_yes _ _ _ (sym c.has_place.ensures ∙ c.if-has_place.true)).0

pub bounds-paid-at : goal.bounds-paid-at
bounds-paid-at c =
    let y = places_yes _ _ _ (sym c.has_place.ensures ∙ c.if-has_place.true) in
    omega (arith, y.1, c.place_of-at.ensures.1)

pub returns-else-has_place : goal.returns-else-has_place
returns-else-has_place c = λ s h. absurd (places_no _ _ _ (sym c.has_place.ensures ∙ c.if-has_place.false) h s s)
