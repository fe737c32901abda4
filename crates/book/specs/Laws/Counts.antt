-- A request takes no more places than are left, and never more than 4,096.
-- Assumes nothing.
use Rattle.std.specs.Prelude.{ℕ, ◌≤◌, min, ◌≡◌, refl, List}
use Rattle.std.proofs.Common.{arith}
use Rattle.refusal.specs.Answer.{Answer, given, refused}
use Rattle.refusal.specs.Laws.Answers.{then_stepped}
use Rattle.steps.specs.Entries.{Entries}
use Rattle.steps.specs.Laws.Counts.{Flagged, build_flagged}
use Rattle.steps.specs.Laws.Entries.{its_schedule}
use Rattle.book.specs.Book.{call_of, call_in, count_of}

-- a schedule that is built has a date at least, no more than there is room for, and one flag fewer
pub call_flagged : (r : List ℕ) (room : ℕ) (e : Entries) → call_in r room ≡ given e → Flagged (min room 4096) e.schedule.dates e.schedule.flags
unfolding call_of
call_flagged r room e h =
    let t = then_stepped _ _ e h in
    let a = t.value in
    build_flagged a.request a.closed room room e.schedule (its_schedule a.request a.closed room room room e t.to)

pub count_fits : (r : List ℕ) (room : ℕ) → count_of (call_in r room) ≤ min room 4096
unfolding count_of
count_fits r room = by (call_in r room) refl
  where
    by : (o : Answer Entries) → call_in r room ≡ o → count_of o ≤ min room 4096
    by (given e) h = (call_flagged r room e h).fits
    by (refused n) h = omega arith
