-- What the code takes from the input checks of a build, and what its rows leave of a request.
-- Assumes nothing.
use Rattle.std.specs.Prelude.{ℕ, ◌≡◌, Bool, true, not, ◌&&◌, List, [], ◌∷◌, eqb, leb, nat_abs}
use Rattle.refusal.specs.Answer.{BOOK, CALENDAR, TENOR}
use Rattle.date.specs.Date.{in_book}
use Rattle.calendar.specs.Open.{calendar_ok}
use Rattle.calendar.specs.Calendar.{tenor_ok}
use Rattle.steps.specs.declared.Request.{Request}
use Rattle.steps.specs.Table.{Row, row}

-- the number of a row that is one of the question's too
unfoldable pub is_early : ℕ → Bool
is_early n = not (eqb n 0) && leb n TENOR

-- the rows that are left of a request that is answered, where the asked day lies in the book
unfoldable pub left_rows : Request → List ℕ → List Row
left_rows q closed =
    row BOOK (not (in_book q.effective.day))
    ∷ row BOOK (not (in_book q.termination.day))
    ∷ row CALENDAR (not (calendar_ok q.mask closed))
    ∷ row TENOR (not (tenor_ok (nat_abs q.tenor.length) q.tenor.unit))
    ∷ []

pub record Passed (q : Request) (x : ℕ) : Type 0 where
  pub tenor : tenor_ok (nat_abs q.tenor.length) q.tenor.unit ≡ true
  pub effective : in_book q.effective.day ≡ true
  pub termination : in_book q.termination.day ≡ true
  pub asked : in_book x ≡ true
