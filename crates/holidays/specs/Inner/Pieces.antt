-- A piece of a line, up to a mark: a name, a parameter's name or its word.
-- Assumes nothing.
use Rattle.std.specs.Prelude.{ℕ, ◌<◌, ◌≡◌, Bool, true, false, not, Option, None, Some, [], ◌∷◌, eqb}
use Rattle.holidays.specs.declared.words.Piece.{Piece}
use Rattle.holidays.specs.Words.{Bytes, pick, QUOTE, COLON, SEMICOLON, EQUALS}
use Rattle.holidays.specs.Content.{turned}
use Rattle.holidays.specs.Inner.Letters.{pack}
use Rattle.holidays.specs.Inner.Along.{ahead, Inside}

-- the mark that ended it, 0 at the line's end; whether it stands inside quotes; what lies behind it
pub record Pieced : Type 0 where
  pub number : ℕ
  pub mark : ℕ
  pub quoted : Bool
  pub rest : Bytes

-- a sign of equality where it is asked for; a colon or a semicolon outside quotes
unfoldable pub is_stop : Bool → Bool → ℕ → Bool
is_stop equals quoted b = pick (eqb b COLON) (not quoted) (pick (eqb b SEMICOLON) (not quoted) (pick (eqb b EQUALS) equals false))

unfoldable pub by_stop : Bool → Bool → ℕ → ℕ → Bytes → Pieced → Pieced
by_stop true quoted k b s on = record { number = k; mark = b; quoted = quoted; rest = s }
by_stop false quoted k b s on = on

unfoldable pub piece : Bool → Bool → ℕ → Bytes → Pieced
piece equals quoted k [] = record { number = k; mark = 0; quoted = quoted; rest = [] }
piece equals quoted k (b ∷ s) =
    by_stop (is_stop equals quoted b) quoted k b s (piece equals (turned (eqb b QUOTE) quoted) (pack k b) s)

-- the code's mark as a number: none is 0
unfoldable pub mark_number : Option ℕ → ℕ
mark_number None = 0
mark_number (Some b) = b

pub record ReadsPiece (file : Bytes) (at line : ℕ) (equals quoted : Bool) (r : Piece) : Type 0 where
  pub number : r.number ≡ (piece equals quoted 1 (ahead file at line)).number
  pub mark : mark_number r.mark ≡ (piece equals quoted 1 (ahead file at line)).mark
  pub quotes : r.quoted ≡ (piece equals quoted 1 (ahead file at line)).quoted
  pub rest : ahead file r.place.at r.place.line ≡ (piece equals quoted 1 (ahead file at line)).rest
  pub inside : Inside file at line r.place.at r.place.line
  pub further : (b : ℕ) → r.mark ≡ Some b → at < r.place.at
