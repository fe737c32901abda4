-- The n-th open day by the calendar's own index is the n-th, counted day by day from the day after; and there is one.
-- Assumes nothing.
use Prim.Native.Nat.{ℕ, suc, ◌+◌, ◌-◌, ◌*◌, ◌%◌, ◌≤◌, ◌<◌}
use Rattle.std.specs.Prelude.{◌≡◌, Bool, true, false, not, List, [], ◌∷◌, eqb, ltb, length}
use Rattle.std.proofs.Math.Path.{sym, ap}
use Rattle.std.proofs.Common.{◌∙◌}
use Rattle.std.proofs.Math.Nat.{mul-le-mul_left}
use native.Mathlib.Omega.{arith}
use Rattle.std.proofs.lemmas.Bool.{not-true}
use Rattle.refusal.specs.Laws.Answers.{both}
use Rattle.date.specs.Date.{SPAN_FIRST, SPAN_LAST}
use Rattle.calendar.specs.Open.{weekly_closed, is_open_day, calendar_ok, closed_ok}
use Rattle.calendar.specs.Laws.Kept.{checked_keeps}
use Rattle.opendays.specs.Count.{tally, weekly_open, open_between, nth_from, nth_open}
use Rattle.opendays.specs.Index.{year_start, place_of, count_at, index_of, count_in, rank_by, year_before, nth_at, nth_by}
use Rattle.opendays.specs.Inner.Steps.{counted_by, listed_before, unless_before, listed_from}
use Rattle.opendays.specs.Laws.Halving.{year_below}
use Rattle.opendays.specs.Laws.Index.{own_count, own_rank, count_at_is}
use Rattle.opendays.specs.Laws.Listed.{listed_only, weekly_is, listed_days, rest_on, rest_start}
use Rattle.opendays.specs.Laws.Nth.{skipped}
use Rattle.opendays.specs.Laws.Weeks.{whole_weeks, some_weekday}
use Rattle.opendays.specs.Laws.Years.{start_from, start_before, place_to}

over_count : (mask : ℕ) (closed index : List ℕ) (day n : ℕ) → 1 ≤ n → count_in index (place_of day) < rank_by mask closed index day + n
unfolding rank_by
over_count mask closed index day n h = omega arith

counted_few : (t w : Bool) (n m : ℕ) → n ≤ m → counted_by t w n ≤ suc m
unfolding counted_by
counted_few false w n m h = omega arith
counted_few true true n m h = omega arith
counted_few true false n m h = omega arith

left_by : (t : Bool) (x : ℕ) (xs rest : List ℕ) → length rest ≤ length xs → length (unless_before t x xs rest) ≤ suc (length xs)
unfolding unless_before
left_by true x xs rest h = omega arith
left_by false x xs rest h = omega arith

left_few : (to : ℕ) (xs : List ℕ) → length (listed_from to xs) ≤ length xs
unfolding listed_from
left_few to [] = omega arith
left_few to (x ∷ xs) = left_by (ltb x to) x xs (listed_from to xs) (left_few to xs)

before_few : (mask to : ℕ) (xs : List ℕ) → listed_before mask to xs ≤ length xs
unfolding listed_before
before_few mask to [] = omega arith
before_few mask to (x ∷ xs) = counted_few (ltb x to) (weekly_closed mask x) (listed_before mask to xs) (length xs) (before_few mask to xs)

module _ (mask : ℕ) (closed : List ℕ) where
  -- ---- from wherever the counting starts: what lies before it is taken off
  pub from_start : (day rank : ℕ) → SPAN_FIRST ≤ day → day ≤ SPAN_LAST → open_between mask closed SPAN_FIRST day < rank → nth_open mask closed day (rank - open_between mask closed SPAN_FIRST day) ≡ nth_open mask closed SPAN_FIRST rank
  unfolding nth_open open_between
  from_start day rank a b h =
      let m = day - SPAN_FIRST in
      let such = is_open_day mask closed in
      let e : SPAN_LAST + 1 - SPAN_FIRST ≡ m + (SPAN_LAST + 1 - day) = omega arith in
      let f : SPAN_FIRST + m ≡ day = omega arith in
      let k : suc (rank - 1) ≡ rank = omega arith in
      let j : suc (rank - 1 - tally such SPAN_FIRST m) ≡ rank - tally such SPAN_FIRST m = omega arith in
      sym
      (ap (λ (l : ℕ). nth_from such l SPAN_FIRST rank) e
      ∙ ap (nth_from such (m + (SPAN_LAST + 1 - day)) SPAN_FIRST) (sym k)
      ∙ skipped such m (SPAN_LAST + 1 - day) SPAN_FIRST (rank - 1) (omega arith)
      ∙ ap (λ (d : ℕ). nth_from such (SPAN_LAST + 1 - day) d (suc (rank - 1 - tally such SPAN_FIRST m))) f
      ∙ ap (nth_from such (SPAN_LAST + 1 - day) day) j)

  -- so from a year whose count is below the rank
  from_year : (i rank : ℕ) → i < 600 → count_at mask closed i < rank → nth_open mask closed (year_start i) (rank - count_at mask closed i) ≡ nth_open mask closed SPAN_FIRST rank
  from_year i rank h l =
      let e = count_at_is mask closed i in
      ap (λ (c : ℕ). nth_open mask closed (year_start i) (rank - c)) e
      ∙ from_start (year_start i) rank (start_from i) (start_before i h) (omega arith)

  -- ---- the n-th: the plain one
  pub own_nth : (day n : ℕ) → SPAN_FIRST ≤ day → day < SPAN_LAST → 1 ≤ n → nth_by mask closed (index_of mask closed) day n ≡ nth_open mask closed (day + 1) n
  unfolding nth_by nth_at
  own_nth day n a b h =
      let rank = rank_by mask closed (index_of mask closed) (day + 1) + n in
      let r : rank_by mask closed (index_of mask closed) (day + 1) ≡ open_between mask closed SPAN_FIRST (day + 1) = own_rank mask closed (day + 1) (omega arith) (omega arith) in
      let p : place_of (day + 1) < 600 = place_to (day + 1) (omega arith) (omega arith) in
      let c : count_in (index_of mask closed) (place_of (day + 1)) < rank = over_count mask closed (index_of mask closed) (day + 1) n h in
      let y = year_below (index_of mask closed) rank 600 (place_of (day + 1)) 600 p c in
      let i = year_before (index_of mask closed) rank 600 (place_of (day + 1)) 600 in
      let o : count_in (index_of mask closed) i ≡ count_at mask closed i = own_count mask closed i (omega (arith, y.high)) in
      let s : open_between mask closed SPAN_FIRST (day + 1) + n - open_between mask closed SPAN_FIRST (day + 1) ≡ n = omega arith in
      ap (λ (x : ℕ). nth_open mask closed (year_start i) (rank - x)) o
      ∙ from_year i rank y.high (omega (arith, y.below))
      ∙ ap (λ (x : ℕ). nth_open mask closed SPAN_FIRST (x + n)) r
      ∙ sym (from_start (day + 1) (open_between mask closed SPAN_FIRST (day + 1) + n) (omega arith) (omega arith) (omega arith))
      ∙ ap (nth_open mask closed (day + 1)) s

  -- ---- there are enough: a week has an open weekday, and at most 4,096 days are listed
  pub few_listed : (from n : ℕ) → closed_ok closed ≡ true → SPAN_FIRST ≤ from → tally (listed_only mask closed) from n ≤ 4096
  few_listed from n ok h =
      let r = rest_on SPAN_FIRST from closed h (rest_start ok) in
      let e = listed_days mask closed n from (listed_from from closed) r in
      let l = (checked_keeps closed ok).few in
      omega (arith, before_few mask (from + n) (listed_from from closed), left_few from closed)

  pub enough_open : (from w : ℕ) → mask < 256 → calendar_ok mask closed ≡ true → SPAN_FIRST ≤ from → w ≤ tally (is_open_day mask closed) from (7 * w) + 4096
  unfolding calendar_ok
  enough_open from w small ok h =
      let s : 1 ≤ tally (weekly_open mask) 1 7 = some_weekday mask small (not-true (eqb (mask % 128) 127) (both (not (eqb (mask % 128) 127)) _ ok).0) in
      let t : w * 1 ≤ w * tally (weekly_open mask) 1 7 = mul-le-mul_left w s in
      omega (arith, whole_weeks mask w from, weekly_is mask closed from (7 * w), few_listed from (7 * w) (both (not (eqb (mask % 128) 127)) _ ok).1 h)
