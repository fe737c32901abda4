-- A date of 1900 to 2200 is added to a list of such dates, or refused with 13 or 14.
-- Assumes nothing.
use Rattle.std.specs.Prelude.{ℕ, refl, Bool, List, eqb}
use Rattle.std.proofs.Math.Bool.{true, false}
use Rattle.std.proofs.Common.{arith}
use Rattle.refusal.specs.Answer.{ROOM}
use Rattle.calendar.specs.declared.Convention.{Convention}
use Rattle.steps.specs.Generate.{Lists, newest, onto, has_room_in, put, put_unless, put_new}
use Rattle.outcomes.specs.Late.{by_room, Fine, gives, steps, other}
use Rattle.outcomes.specs.Laws.Searched.{Asks}
use Rattle.outcomes.specs.Laws.Days.{Mid, mid_at, adjust_fine}
use Rattle.outcomes.specs.Laws.Each.{Each}

pub record Good (l : Lists) : Type 0 where
  pub front : Mid (newest l)
  pub all : Each Mid l.dates

module _ {c : Type 0} (room : ℕ) where
  pub put_fine : (day mark : ℕ) (l : Lists) → Mid day → Each Mid l.dates → Fine c Good (put room day mark l)
  unfolding put
  put_fine day mark l m a = other ROOM (by_room refl) (has_room_in room l) (gives (onto day mark l) (record { front = m; all = (m, a) }))

  unless_fine : (b : Bool) (day mark : ℕ) (l : Lists) → Mid day → Good l → Fine c Good (put_unless b room day mark l)
  unfolding put_unless
  unless_fine true day mark l m g = gives l g
  unless_fine false day mark l m g = put_fine day mark l m g.all

  pub new_fine : (mask : ℕ) (closed : List ℕ) (convention : Convention) → Asks c convention → (day mark : ℕ) (l : Lists) → Mid day → Good l → Fine c Good (put_new mask closed convention room day day mark l)
  unfolding put_new
  new_fine mask closed convention h day mark l m g =
      steps _ (adjust_fine 0 (newest l) (omega arith) (mid_at _ g.front) mask closed convention h) (λ a p.
      steps _ (adjust_fine 0 day (omega arith) (mid_at _ m) mask closed convention h) (λ b p'.
      unless_fine (eqb a b) day mark l m g))
