-- Document 01, "Calendar": a mask of weekly closed days, Monday the lowest bit, and a list of closed dates.
-- Assumes nothing.
use Rattle.std.specs.Prelude.{ℕ, ◌+◌, ◌/◌, ◌%◌, ◌^◌, Bool, true, false, not, ◌&&◌, ◌||◌, List, [], ◌∷◌, eqb, leb, length}
use Rattle.date.specs.Date.{SPAN_FIRST, SPAN_LAST}

-- the weekday's bit of the mask is set; day 1 is a Monday, and the top bit says nothing
unfoldable pub weekly_closed : ℕ → ℕ → Bool
weekly_closed mask day = eqb (mask / 2 ^ ((day + 6) % 7) % 2) 1

unfoldable pub member : ℕ → List ℕ → Bool
member day [] = false
member day (x ∷ xs) = eqb x day || member day xs

unfoldable pub is_open_day : ℕ → List ℕ → ℕ → Bool
is_open_day mask closed day = not (weekly_closed mask day) && not (member day closed)

-- strictly ascending, each from `low` to `high`
unfoldable pub ascending : ℕ → ℕ → List ℕ → Bool
ascending low high [] = true
ascending low high (x ∷ xs) = leb low x && (leb x high && ascending (x + 1) high xs)

-- at most 4,096 closed dates, strictly ascending, from 1800-01-01 to 2399-12-31
unfoldable pub closed_ok : List ℕ → Bool
closed_ok closed = leb (length closed) 4096 && ascending SPAN_FIRST SPAN_LAST closed

unfoldable pub calendar_ok : ℕ → List ℕ → Bool
calendar_ok mask closed = not (eqb (mask % 128) 127) && closed_ok closed
