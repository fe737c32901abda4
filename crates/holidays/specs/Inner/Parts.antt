-- What the code's stack of open parts stands for.
-- Assumes nothing.
use Rattle.std.specs.Prelude.{ℕ, zero, suc, ◌+◌, ◌≡◌, Bool, true, false, not, Option, None, Some, List, [], ◌∷◌, eqb, get_or, set}
use Rattle.holidays.specs.Words.{Bytes, pick, uppers, spells}
use Rattle.holidays.specs.Content.{value}
use Rattle.holidays.specs.Nesting.{Parts, broken, open_are, after_begin}
use Rattle.holidays.specs.Inner.Along.{ahead}

-- the names at the places of the stack, so many of them
unfoldable pub parts_of : Bytes → List ℕ → ℕ → Parts
parts_of file stack zero = []
parts_of file stack (suc k) = uppers (ahead file (get_or stack k 0) 0) ∷ parts_of file stack k

-- the numbers of VCALENDAR and VEVENT
abbrev pub CALENDAR_IS : ℕ
CALENDAR_IS = 59478189215794

abbrev pub EVENT_IS : ℕ
EVENT_IS = 1817908692

unfoldable pub may_begin_by : ℕ → ℕ → Bool
may_begin_by depth w =
    pick (eqb depth 0) (eqb w CALENDAR_IS) (pick (eqb w CALENDAR_IS) false (pick (eqb depth 1) true (not (eqb w EVENT_IS))))

-- the outermost part is a VCALENDAR, the second a VEVENT or not, and no other is either
unfoldable pub NestIsOk : Bool → Parts → Type 0
NestIsOk e [] = Unit {0}
NestIsOk e (p ∷ []) = spells p "VCALENDAR" ≡ true
NestIsOk e (p ∷ q ∷ []) = (spells p "VCALENDAR" ≡ false) × ((spells p "VEVENT" ≡ e) × (spells q "VCALENDAR" ≡ true))
NestIsOk e (p ∷ q ∷ r ∷ ps) = (spells p "VCALENDAR" ≡ false) × ((spells p "VEVENT" ≡ false) × NestIsOk e (q ∷ r ∷ ps))

unfoldable pub OpensAs : Bytes → ℕ → ℕ → ℕ → List ℕ → Option Bool → List ℕ → Type 0
OpensAs file at line depth stack None stack' =
    (after_begin (value (ahead file at line)) (parts_of file stack depth) ≡ broken) × (stack' ≡ stack)
OpensAs file at line depth stack (Some e) stack' =
    (after_begin (value (ahead file at line)) (parts_of file stack depth) ≡ open_are (parts_of file stack' (depth + 1)))
    × ((NestIsOk e (parts_of file stack' (depth + 1))) × (stack' ≡ set stack depth at))

pub record Opens (file : Bytes) (at line depth : ℕ) (event : Bool) (stack : List ℕ) (r : Option Bool) (stack' : List ℕ) : Type 0 where
  pub so : OpensAs file at line depth stack r stack'
