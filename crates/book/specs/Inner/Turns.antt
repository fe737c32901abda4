-- What the functions under a book promise each other: a request's turn.
-- Assumes nothing.
use Rattle.std.specs.Prelude.{ℕ, ◌+◌, ◌-◌, ◌*◌, ◌/◌, ◌≤◌, ◌≡◌, List, length}
use Rattle.refusal.specs.Answer.{given}
use Rattle.steps.specs.Build.{over}
use Rattle.steps.specs.declared.Built.{Built}
use Rattle.book.specs.Inner.Calls.{count_in, numbers_in}
use Rattle.book.specs.Framing.{requests_in}
use Rattle.book.specs.Book.{Lists, call_in, count_of, turned}

-- ---- an answer put
pub record Puts (built : Built) (start r : ℕ) (answers answers' : List ℕ) : Type 0 where
  pub count : r ≡ count_in built
  pub after : answers' ≡ over (numbers_in start built) answers

-- ---- lists that are as long as each other
pub record Even (l : Lists) : Type 0 where
  pub flags : length l.dates ≡ length l.flags
  pub unadjusted : length l.dates ≡ length l.unadjusted

-- there is a place for answer i, and the start lies within the lists
pub record Fits (i start : ℕ) (l : Lists) : Type 0 where
  pub even : Even l
  pub within : start ≤ length l.dates
  pub small : start ≤ 4096 * i
  pub most : i ≤ 63
  pub place : 4 * i + 4 ≤ length l.answers

pub record Turned (bytes : List ℕ) (i start r : ℕ) (l l' : Lists) : Type 0 where
  pub count : r ≡ count_of (call_in bytes (length l.dates - start))
  pub after : l' ≡ turned i start (call_in bytes (length l.dates - start)) l

-- the bytes are a book, and there is a place for each answer
pub record Ready (bytes : List ℕ) (l : Lists) : Type 0 where
  pub requests : List (List ℕ)
  pub from : requests_in bytes ≡ given requests
  pub even : Even l
  pub places : length requests ≤ length l.answers / 4
