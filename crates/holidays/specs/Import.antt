-- Document 02, L10: what the import of a file answers, where the list lent has so many places.
-- Assumes nothing.
use Rattle.std.specs.Prelude.{ℕ, zero, suc, ◌-◌, min, Bool, true, false, ◌&&◌, List, [], ◌∷◌, eqb, leb, ltb, length}
use Rattle.refusal.specs.Answer.{ROOM, FULL, ICAL}
use Rattle.holidays.specs.Words.{Bytes, pick, Course, ended, refused_at, next}
use Rattle.holidays.specs.Lines.{lines_of}
use Rattle.holidays.specs.Nesting.{nested}
use Rattle.holidays.specs.Events.{Event, events}

-- the days, ascending; or the number of the refusal and the line
pub data Import : Type 0 where
  days : List ℕ → Import
  refused_at_lem : ℕ → ℕ → Import

-- ---- a day among others, once
unfoldable pub by_order : Bool → Bool → ℕ → ℕ → List ℕ → (Unit {0} → List ℕ) → List ℕ
by_order true e d x xs on = d ∷ x ∷ xs
by_order false true d x xs on = x ∷ xs
by_order false false d x xs on = x ∷ on tt

unfoldable pub insert : ℕ → List ℕ → List ℕ
insert d [] = d ∷ []
insert d (x ∷ xs) = by_order (ltb d x) (eqb d x) d x xs (λ u. insert d xs)

-- so many days from a day on, among others
unfoldable pub add : ℕ → ℕ → List ℕ → List ℕ
add zero d xs = xs
add (suc n) d xs = insert d (add n (suc d) xs)

unfoldable pub with_event : Event → List ℕ → List ℕ
with_event e xs = add (e.past - e.first) e.first xs

-- ---- room: 4,096 days at most, and as many as there are places
abbrev pub MOST : ℕ
MOST = 4096

unfoldable pub full : ℕ → ℕ
full room = pick (ltb room MOST) ROOM FULL

unfoldable pub on_room : Bool → ℕ → ℕ → List ℕ → (List ℕ → Import) → Import
on_room true room line xs on = on xs
on_room false room line xs on = refused_at_lem (full room) line

unfoldable pub fits : ℕ → List ℕ → Bool
fits room xs = leb (length xs) (min room MOST)

unfoldable pub on_days : ℕ → ℕ → List ℕ → (List ℕ → Import) → Import
on_days room line xs on = on_room (fits room xs) room line xs on

unfoldable pub gathered : ℕ → Course Event → List ℕ → Import
gathered room ended xs = days xs
gathered room (refused_at number line) xs = refused_at_lem number line
gathered room (next e es) xs = on_days room e.line (with_event e xs) (gathered room es)

-- ---- the whole: 1 to 65,536 bytes
abbrev pub size_ok : ℕ → Bool
size_ok n = leb 1 n && leb n 65536

unfoldable pub import_of : Bytes → ℕ → Import
import_of file room = pick (size_ok (length file)) (gathered room (events (nested (lines_of file))) []) (refused_at_lem ICAL 0)
