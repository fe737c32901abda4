-- What the code's ways along an unfolded line promise. A place is where a byte of the file stands, with the number of the physical
-- line there; what is ahead of it are the bytes of the unfolded line from there.
-- Assumes nothing.
use Rattle.std.specs.Prelude.{ℕ, ◌+◌, ◌≤◌, ◌<◌, ◌≡◌, Bool, true, false, Option, None, Some, [], ◌∷◌, length, drop, get_or}
use Rattle.holidays.specs.declared.lines.Place.{Place}
use Rattle.holidays.specs.Words.{Bytes}
use Rattle.holidays.specs.Inner.Cut.{Cut, cut_from}

-- the cut from inside a line
abbrev pub cut_at : Bytes → ℕ → ℕ → Cut
cut_at file at line = cut_from false line (drop at file)

abbrev pub ahead : Bytes → ℕ → ℕ → Bytes
ahead file at line = (cut_at file at line).bytes

-- a place in a file of at most 65,536 bytes, and a line number there: each line before it took a byte at least
pub record Before (file : Bytes) (at line : ℕ) : Type 0 where
  pub inside : at ≤ length file
  pub short : length file ≤ 65536
  pub low : line ≤ at + 1

-- a later place of the same unfolded line
pub record Inside (file : Bytes) (at line i n : ℕ) : Type 0 where
  pub rest : (cut_at file i n).rest ≡ (cut_at file at line).rest
  pub number : (cut_at file i n).number ≡ (cut_at file at line).number
  pub before : Before file i n
  pub later : at ≤ i
  -- each byte of the line takes one of the file at least
  pub far : length (ahead file at line) + at ≤ i + length (ahead file i n)

-- ---- the next byte
pub record Took (file : Bytes) (at line b i n : ℕ) : Type 0 where
  pub bytes : ahead file at line ≡ b ∷ ahead file i n
  pub inside : Inside file at line i n
  pub further : at < i

unfoldable pub IsStepped : Bytes → ℕ → ℕ → Option (ℕ × Place) → Type 0
IsStepped file at line None = ahead file at line ≡ []
IsStepped file at line (Some s) = Took file at line s.0 s.1.at s.1.line

pub record Steps (file : Bytes) (at line : ℕ) (r : Option (ℕ × Place)) : Type 0 where
  pub so : IsStepped file at line r

-- ---- along the line: as far as before, what lies behind it is the same
pub record Skipping (file : Bytes) (at line i n : ℕ) : Type 0 where
  pub rest : (cut_at file i n).rest ≡ (cut_at file at line).rest
  pub number : (cut_at file i n).number ≡ (cut_at file at line).number
  pub before : Before file i n
  pub later : at ≤ i

-- eight bytes, none a line feed
pub record Eight (file : Bytes) (at : ℕ) : Type 0 where
  pub within : at + 8 ≤ length file
  pub b₀ : get_or file at 0 ≡ 10 → ⊥
  pub b₁ : get_or file (at + 1) 0 ≡ 10 → ⊥
  pub b₂ : get_or file (at + 2) 0 ≡ 10 → ⊥
  pub b₃ : get_or file (at + 3) 0 ≡ 10 → ⊥
  pub b₄ : get_or file (at + 4) 0 ≡ 10 → ⊥
  pub b₅ : get_or file (at + 5) 0 ≡ 10 → ⊥
  pub b₆ : get_or file (at + 6) 0 ≡ 10 → ⊥
  pub b₇ : get_or file (at + 7) 0 ≡ 10 → ⊥

pub record Clears (file : Bytes) (at : ℕ) (r : Bool) : Type 0 where
  pub so : r ≡ true → Eight file at

-- ---- past the line
pub record Skipped (file : Bytes) (at line : ℕ) (r : Place) : Type 0 where
  pub rest : (cut_at file at line).rest ≡ drop r.at file
  pub number : (cut_at file at line).number ≡ r.line
  pub before : Before file r.at r.line
  pub later : at ≤ r.at
