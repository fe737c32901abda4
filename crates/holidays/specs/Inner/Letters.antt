-- Words as numbers: a 1, then 5 bits a letter in either case. 0 where a byte is no letter and no hyphen, or the word is longer than
-- twelve; what is 0 stays so.
-- Assumes nothing.
use Rattle.std.specs.Prelude.{ℕ, ◌+◌, ◌-◌, ◌*◌, ◌≤◌, ◌<◌, ◌≡◌, ◌&&◌, Option, None, Some, [], ◌∷◌, eqb, leb}
use Rattle.holidays.specs.Words.{Bytes, pick}

-- 1 to 26 for a letter in either case, 27 for the hyphen, 0 for every other byte
unfoldable pub letter : ℕ → ℕ
letter b = pick (leb 65 b && leb b 90) (b - 64) (pick (leb 97 b && leb b 122) (b - 96) (pick (eqb b 45) 27 0))

-- the code's answer: none where the number is 0
unfoldable pub letter_number : Option ℕ → ℕ
letter_number None = 0
letter_number (Some n) = n

unfoldable pub IsLetter : Option ℕ → Type 0
IsLetter None = Unit {0}
IsLetter (Some n) = (1 ≤ n) × (n < 32)

pub record Lettered (b : ℕ) (r : Option ℕ) : Type 0 where
  pub same : letter_number r ≡ letter b
  pub small : IsLetter r

-- 2 to the 58th and more have no room for another letter
abbrev pub LONG : ℕ
LONG = 288230376151711744

unfoldable pub pack : ℕ → ℕ → ℕ
pack k b = pick (eqb k 0) 0 (pick (leb LONG k) 0 (pick (eqb (letter b) 0) 0 (k * 32 + letter b)))

unfoldable pub packs : ℕ → Bytes → ℕ
packs k [] = k
packs k (b ∷ s) = packs (pack k b) s
