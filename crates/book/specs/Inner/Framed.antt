-- What the functions that part a book promise each other.
-- Assumes nothing.
use Rattle.std.specs.Prelude.{ℕ, ◌+◌, ◌≤◌, ◌≡◌, List, length}
use Rattle.book.specs.Framing.{size_of, body_of, behind}

-- the length that leads the bytes, or the body behind it, does not stand there whole
abbrev pub Cut : List ℕ → Type 0
Cut s = 2 + size_of s ≤ length s → 2 ≤ length s → ⊥

-- the bytes begin with a length and this request, whole, and this is behind it
pub record Leads (s request rest : List ℕ) : Type 0 where
  pub led : 2 ≤ length s
  pub whole : 2 + size_of s ≤ length s
  pub is : request ≡ body_of s
  pub onward : rest ≡ behind s
