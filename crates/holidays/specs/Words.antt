-- RFC 5545, section 2 and 1.3: bytes, words of ASCII letters, and words that differ only in case. Lines and events in file order, up to a refusal.
-- Assumes nothing.
use Rattle.std.specs.Prelude.{ℕ, ◌-◌, Bool, true, false, ◌&&◌, List, [], ◌∷◌, eqb, leb}
use Prim.Native.Char.{code}
use Prim.Native.String.{String, [] as []ᵗ, ◌∷◌ as ◌∷ᵗ◌}

abbrev pub Bytes : Type 0
Bytes = List ℕ

unfoldable pub pick : {A : Type 0} → Bool → A → A → A
pick true a b = a
pick false a b = b

-- ---- bytes that count
abbrev pub LF : ℕ
LF = 10

abbrev pub CR : ℕ
CR = 13

abbrev pub TAB : ℕ
TAB = 9

abbrev pub BLANK : ℕ
BLANK = 32

abbrev pub QUOTE : ℕ
QUOTE = 34

abbrev pub COLON : ℕ
COLON = 58

abbrev pub SEMICOLON : ℕ
SEMICOLON = 59

abbrev pub EQUALS : ℕ
EQUALS = 61

-- a text of ASCII as bytes
unfoldable pub ascii : String → Bytes
ascii []ᵗ = []
ascii (c ∷ᵗ s) = code c ∷ ascii s

-- ---- the case of ASCII letters does not count
unfoldable pub upper : ℕ → ℕ
upper b = pick (leb 97 b && leb b 122) (b - 32) b

unfoldable pub uppers : Bytes → Bytes
uppers [] = []
uppers (b ∷ s) = upper b ∷ uppers s

unfoldable pub equal : Bytes → Bytes → Bool
equal [] [] = true
equal [] (c ∷ t) = false
equal (b ∷ s) [] = false
equal (b ∷ s) (c ∷ t) = eqb b c && equal s t

-- the bytes spell the word, in either case; the word is written in capitals
unfoldable pub spells : Bytes → String → Bool
spells s word = equal (uppers s) (ascii word)

-- ---- things in file order, up to the end or to the first refusal: its number, and the line
pub data Course (A : Type 0) : Type 0 where
  ended : Course A
  refused_at : ℕ → ℕ → Course A
  next : A → Course A → Course A
