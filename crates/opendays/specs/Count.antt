-- Request L9, "open days": days counted one by one, and the n-th of them.
-- Assumes nothing.
use Rattle.std.specs.Prelude.{ℕ, zero, suc, ◌+◌, ◌-◌, Bool, true, false, not, List}
use Rattle.refusal.specs.Answer.{Answer, given, refused, BOOK}
use Rattle.date.specs.Civil.{pick_n}
use Rattle.date.specs.Date.{SPAN_LAST}
use Rattle.calendar.specs.Open.{weekly_closed, is_open_day}

-- how many of the n days from `day` on are such, one by one
unfoldable pub tally : (ℕ → Bool) → ℕ → ℕ → ℕ
tally such day zero = 0
tally such day (suc n) = pick_n (such day) 1 0 + tally such (day + 1) n

-- the open days from `first` up to, and without, `last`: none if that is not later
unfoldable pub open_between : ℕ → List ℕ → ℕ → ℕ → ℕ
open_between mask closed first last = tally (is_open_day mask closed) first (last - first)

unfoldable pub weekly_open : ℕ → ℕ → Bool
weekly_open mask day = not (weekly_closed mask day)

-- ---- the k-th such day from `day` on, of as many days as `left` says; one that is such is the answer if it is the first that is wanted
unfoldable pub on_day : Bool → ℕ → ℕ → (ℕ → Answer ℕ) → Answer ℕ
on_day false day k on = on k
on_day true day zero on = given day
on_day true day (suc zero) on = given day
on_day true day (suc (suc k)) on = on (suc k)

unfoldable pub nth_from : (ℕ → Bool) → ℕ → ℕ → ℕ → Answer ℕ
nth_from such zero day k = refused BOOK
nth_from such (suc left) day k = on_day (such day) day k (nth_from such left (day + 1))

-- the k-th open day from `day` on, refused 2 where it would lie after 2399
unfoldable pub nth_open : ℕ → List ℕ → ℕ → ℕ → Answer ℕ
nth_open mask closed day k = nth_from (is_open_day mask closed) (SPAN_LAST + 1 - day) day k
