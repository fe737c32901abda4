-- Where a text stands in a lent list of bytes, and what is left of the list; how many lines of a schedule have brackets.
-- Assumes nothing.
use Rattle.std.specs.Prelude.{ℕ, ◌+◌, ◌≤◌, ◌≡◌, List, [], ◌∷◌, ◌++◌, eqb, leb, length, take, drop, get_or}
use Rattle.printing.specs.Text.{pick, decimal}

-- a text was put at a place: it ends at the answer, and all before and behind it is as it was
pub record Put (text : List ℕ) (at : ℕ) (old : List ℕ) (end : ℕ) (new : List ℕ) : Type 0 where
  pub ends : end ≡ at + length text
  pub before : take end new ≡ take at old ++ text
  pub behind : drop end new ≡ drop end old
  pub size : length new ≡ length old

-- a text is put whole, or not at all where it has more bytes than there is room
unfoldable pub fitting : List ℕ → ℕ → List ℕ
fitting text room = pick (leb (length text) room) text []

-- the digits of a number, from a place on to the end of 20 bytes
pub record Spelled (n at : ℕ) (digits : List ℕ) : Type 0 where
  pub says : drop at digits ≡ decimal n
  pub within : at ≤ 19
  pub size : length digits ≡ 20

-- how many entries have two dates that differ
unfoldable pub differs : (paid unadjusted : ℕ) → ℕ
differs paid unadjusted = pick (eqb paid unadjusted) 0 1

unfoldable pub differing : (dates unadjusted : List ℕ) → ℕ
differing [] unadjusted = 0
differing (day ∷ days) unadjusted = differs day (get_or unadjusted 0 day) + differing days (drop 1 unadjusted)
