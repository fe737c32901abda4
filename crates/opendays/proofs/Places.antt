-- What the place of a day tells of whether it is listed.
-- Assumes nothing.
use Prim.Native.Nat.{ℕ, ◌≤◌, ◌<◌}
use mathlib.Core.Path.{◌≡◌, sym, ap, ◌∙◌}
use mathlib.Core.Bool.{Bool, true, false, not}
use mathlib.Core.List.{List}
use lib.Dec.{eqb}
use lib.ListN.{length, get_or}
use borrow.Author.Rules.{rules}
use Rattle.calendar.specs.Open.{weekly_closed, member, is_open_day, closed_ok}
use Rattle.calendar.specs.Inner.Places.{LowerBound}
use Rattle.opendays.specs.Laws.Listed.{listed_at, unlisted_at}

-- ---- whether the date at the place is the day
module _ {closed : List ℕ} {x at : ℕ} (b : LowerBound closed x at) (ok : closed_ok closed ≡ true) where
  pub listed_there : (t : Bool) → at < length closed → t ≡ eqb (get_or closed at 0) x → t ≡ member x closed
  listed_there t h e = e ∙ listed_at closed x at ok b h

  pub listed_nowhere : length closed ≤ at → false ≡ member x closed
  listed_nowhere h = sym (unlisted_at closed x at ok b h)

pub open_shut : (mask day : ℕ) (closed : List ℕ) (w : Bool) → w ≡ weekly_closed mask day → w ≡ true → false ≡ is_open_day mask closed day
unfolding is_open_day
open_shut mask day closed w p e = sym (rw (sym p ∙ e))

pub open_listed : (mask day : ℕ) (closed : List ℕ) (w l : Bool) → w ≡ weekly_closed mask day → w ≡ false → (closed_ok closed ≡ true → l ≡ member day closed) → closed_ok closed ≡ true → not l ≡ is_open_day mask closed day
unfolding is_open_day
open_listed mask day closed w l p e h ok = rw (sym p ∙ e) (ap not (h ok))

pub ruleset listing = (listed_there, listed_nowhere, open_shut, open_listed, rules)
