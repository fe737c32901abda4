-- The last date of a forward build is put beside those that are there: the list of before stands at an end of the list.
-- Assumes nothing.
use Rattle.std.specs.Prelude.{ℕ, ◌≡◌, refl, Bool, List, [], ◌∷◌, ◌++◌, eqb}
use Rattle.std.proofs.Common.{sym, ap}
use Rattle.std.proofs.Math.Bool.{true, false}
use Rattle.refusal.specs.Answer.{given, ROOM}
use Rattle.refusal.specs.Laws.Answers.{need_given, one_given, then_stepped}
use Rattle.steps.specs.declared.Request.{Request}
use Rattle.steps.specs.Generate.{Lists, onto, has_room_in, put, put_closing, closing}

-- m has l's dates, and others before them
pub record Grows (l m : List ℕ) : Type 0 where
  pub added : List ℕ
  pub so : m ≡ added ++ l

none_added : {l m : Lists} → given l ≡ given m → Grows l.dates m.dates
none_added {l} {m} h = let e : l ≡ m = one_given (given l) l m refl h in record { added = []; so = ap (λ (x : Lists). x.dates) (sym e) }

put_grows : (room day mark : ℕ) (l m : Lists) → put room day mark l ≡ given m → Grows l.dates m.dates
unfolding put
put_grows room day mark l m h =
    let e : onto day mark l ≡ m = one_given (given (onto day mark l)) (onto day mark l) m refl (need_given ROOM (has_room_in room l) _ m h).1 in
    record { added = day ∷ []; so = ap (λ (x : Lists). x.dates) (sym e) }

module _ (q : Request) (closed : List ℕ) (room : ℕ) where
  unless_grows : (b : Bool) (l m : Lists) → put_closing b q room l ≡ given m → Grows l.dates m.dates
  unfolding put_closing
  unless_grows true l m h = none_added h
  unless_grows false l m h = let s = then_stepped _ _ m h in put_grows room s.value _ l m s.to

  pub closing_grows : (l m : Lists) → closing q closed room l ≡ given m → Grows l.dates m.dates
  unfolding closing
  closing_grows l m h =
      let s = then_stepped _ _ m h in
      let t = then_stepped _ _ m s.to in
      unless_grows (eqb s.value t.value) l m t.to
