-- Document 01, "Request bytes and the program", with request L7: what the program prints of the bytes that it is given.
-- Assumes nothing.
use Rattle.std.specs.Prelude.{ℕ, ◌≤◌, ◌≡◌, List, length, get_or}
use Rattle.refusal.specs.Answer.{Answer, given, refused}
use Rattle.steps.specs.Entries.{Entries, entries_of}
use Rattle.request.specs.Format.{Asked, decoded}
use Rattle.printing.specs.Text.{schedule_text, refusal_text}
use Rattle.printing.specs.Put.{Put, fitting}

-- the room that the program lends: for closed dates, dates, flags and unadjusted dates
abbrev pub PLACES : ℕ
PLACES = 4096

-- what is printed of a build
unfoldable pub built_text : Answer Entries → List ℕ
built_text (given e) = schedule_text e.schedule.tries e.schedule.dates e.schedule.flags e.unadjusted
built_text (refused n) = refusal_text n

unfoldable pub asked_text : Answer Asked → List ℕ
asked_text (given a) = built_text (entries_of a.request a.closed PLACES PLACES PLACES)
asked_text (refused n) = refusal_text n

-- the text of a request's bytes, whatever they are
unfoldable pub reply_text : List ℕ → List ℕ
reply_text bytes = asked_text (decoded bytes PLACES)

-- a text put at the start of what is lent, whole, or not at all where it does not fit; 106,519 bytes hold any
pub record Replies (text old : List ℕ) (end : ℕ) (new : List ℕ) : Type 0 where
  pub put : Put (fitting text (length old)) 0 old end new
  pub within : end ≤ length new
  pub short : length text ≤ 106519

-- the same where there is room for any: put whole
pub record Printed (text old : List ℕ) (end : ℕ) (new : List ℕ) : Type 0 where
  pub put : Put text 0 old end new
  pub within : end ≤ length new

-- a list that holds nothing but 0
pub record Zeros (l : List ℕ) : Type 0 where
  pub zero_at : (i : ℕ) → get_or l i 0 ≡ 0
