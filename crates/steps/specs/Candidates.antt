-- Document 01, "Schedule steps": the candidates, and what each of them does.
-- Assumes nothing.
use Rattle.std.specs.Prelude.{ℕ, ◌*◌, Bool, true, false, ◌&&◌, List, eqb, ltb}
use Rattle.refusal.specs.Answer.{Answer, given, then}
use Rattle.date.specs.Civil.{fields_of, month_length, pick_n}
use Rattle.date.specs.Date.{month_index, within_span, in_month, step}
use Rattle.calendar.specs.declared.Convention.{Convention}
use Rattle.calendar.specs.Adjust.{adjusted}
use Rattle.steps.specs.declared.Pace.{Pace}
use Rattle.steps.specs.declared.Seed.{Seed}

-- ---- the seed
-- the null calendar's month end: the next day lies in another month
unfoldable pub last_day : ℕ → Bool
last_day day = eqb (fields_of day).day (month_length (fields_of day).year (fields_of day).month)

-- candidates keep the seed's day of the month, or are month ends (no month is longer than 31 days) where end of month is on and the seed is one
unfoldable pub seed_of : Bool → ℕ → Seed
seed_of monthend day = record { day = day; month = month_index day; keep = pick_n (monthend && last_day day) 31 (fields_of day).day }

-- ---- the k-th candidate: k tenors after the seed, or before it, on the null calendar
unfoldable pub candidate_by : Bool → (back : Bool) → Seed → (n : ℕ) → Answer ℕ
candidate_by false back seed n = within_span (step back seed.day n)
candidate_by true back seed n = in_month (step back seed.month n) seed.keep

unfoldable pub candidate : Bool → Pace → Seed → ℕ → Answer ℕ
candidate back pace seed k = candidate_by pace.monthly back seed (k * pace.size)

-- beyond the exit date: before it in a backward build, after it in a forward one
unfoldable pub is_past : Bool → (exit day : ℕ) → Bool
is_past true exit day = ltb day exit
is_past false exit day = ltb exit day

-- ---- what a candidate does: it ends the loop, is skipped, or is kept
pub data Turn : Type 0 where
  past : Turn
  skip : Turn
  keep : ℕ → Turn

unfoldable pub unless_same : Bool → ℕ → Turn
unless_same true day = skip
unless_same false day = keep day

-- a candidate whose adjusted date equals that of the newest date kept is skipped
unfoldable pub unless_past : Bool → (mask : ℕ) (closed : List ℕ) → Convention → (newest day : ℕ) → Answer Turn
unless_past true mask closed convention newest day = given past
unless_past false mask closed convention newest day =
    then (adjusted mask closed convention newest) (λ a.
    then (adjusted mask closed convention day) (λ b.
    given (unless_same (eqb a b) day)))

unfoldable pub turn_of : (mask : ℕ) (closed : List ℕ) → Convention → (back : Bool) → Pace → Seed → (exit newest k : ℕ) → Answer Turn
turn_of mask closed convention back pace seed exit newest k =
    then (candidate back pace seed k) (λ day. unless_past (is_past back exit day) mask closed convention newest day)
