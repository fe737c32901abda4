-- Ways through the functions that decide: whether there is room, the letter of a flag, and the unadjusted date beside a paid one.
-- Assumes nothing.
use Prim.Native.Nat.{ℕ, ◌+◌, ◌-◌, ◌*◌, ◌/◌, ◌≤◌, ◌<◌}
use mathlib.Core.Path.{◌≡◌, refl, sym}
use mathlib.Core.Bool.{Bool, true, false}
use mathlib.Core.List.{List, [], ◌∷◌}
use native.Mathlib.Omega.{arith}
use lib.Dec.{leb}
use lib.ListN.{length, drop}
use borrow.Author.Rules.{rules}
use borrow.Author.Tests.{le-leb, lt-leb, leb-true, leb-false, eq-eqb, ne_eqb}
use Rattle.printing.specs.Put.{differs}

-- ---- room
pub room_none : (head n brackets room : ℕ) → room < head → false ≡ leb (head + (13 * (n + brackets) - 2)) room
room_none head n brackets room h = sym (lt-leb (head + (13 * (n + brackets) - 2)) room (omega arith))

pub room_few : (head n brackets room : ℕ) → head ≤ room → (room - head + 2) / 13 < n → false ≡ leb (head + (13 * (n + brackets) - 2)) room
room_few head n brackets room h f = sym (lt-leb (head + (13 * (n + brackets) - 2)) room (omega arith))

room_by : (head n brackets room : ℕ) (t : Bool) → head ≤ room → n ≤ (room - head + 2) / 13 → leb brackets ((room - head + 2) / 13 - n) ≡ t → t ≡ leb (head + (13 * (n + brackets) - 2)) room
room_by head n brackets room true h f e = sym (le-leb (head + (13 * (n + brackets) - 2)) room (omega (arith, leb-true brackets ((room - head + 2) / 13 - n) e)))
room_by head n brackets room false h f e = sym (lt-leb (head + (13 * (n + brackets) - 2)) room (omega (arith, leb-false brackets ((room - head + 2) / 13 - n) e)))

pub room_some : (head n brackets room : ℕ) → head ≤ room → n ≤ (room - head + 2) / 13 → leb brackets ((room - head + 2) / 13 - n) ≡ leb (head + (13 * (n + brackets) - 2)) room
room_some head n brackets room h f = room_by head n brackets room _ h f refl

-- ---- unadjusted dates
pub differs_not : (paid unadjusted : ℕ) → paid ≡ unadjusted → 0 ≡ differs paid unadjusted
unfolding differs
differs_not paid unadjusted e = rw (eq-eqb paid unadjusted e)

pub differs_so : (paid unadjusted : ℕ) → (paid ≡ unadjusted → ⊥) → 1 ≡ differs paid unadjusted
unfolding differs
differs_so paid unadjusted h = rw (ne_eqb paid unadjusted h)

pub others_none : (unadjusted : List ℕ) → length unadjusted ≡ 0 → unadjusted ≡ drop 1 unadjusted
others_none [] e = refl
others_none (x ∷ xs) e = let bad : ⊥ = omega arith in absurd bad

pub ruleset ways = (room_none, room_few, room_some, differs_not, differs_so, others_none, rules)
