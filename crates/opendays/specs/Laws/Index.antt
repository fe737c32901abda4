-- The calendar's own index: its questions have the plain counts for answers.
-- Assumes nothing.
use Prim.Native.Nat.{ℕ, zero, suc, ◌+◌, ◌-◌, ◌≤◌, ◌<◌}
use Rattle.std.specs.Prelude.{◌≡◌, Bool, true, false, List, ltb, length, get_or}
use Rattle.std.proofs.Math.Path.{refl, ap}
use Rattle.std.proofs.Common.{sym, ◌∙◌, not-suc-le-zero, ltb-true, ltb-false}
use native.Mathlib.Omega.{arith}
use Rattle.date.specs.Civil.{pick_n}
use Rattle.date.specs.Date.{SPAN_FIRST, SPAN_LAST}
use Rattle.calendar.specs.Open.{is_open_day}
use Rattle.opendays.specs.Count.{open_between}
use Rattle.opendays.specs.Index.{PLACES, MOST, year_start, place_of, count_at, counts_from, index_of, count_in, rank_by, count_by}
use Rattle.opendays.specs.Laws.Tally.{tally_to, tally_few, none_counted}
use Rattle.opendays.specs.Laws.Years.{start_first, start_from, start_to, start_le, place_low, place_to}

-- ---- a list of counts, by its places
module _ (count : ℕ → ℕ) where
  pub counts_length : (i n : ℕ) → length (counts_from count i n) ≡ n
  unfolding counts_from
  counts_length i zero = refl
  counts_length i (suc n) = ap suc (counts_length (suc i) n)

  pub counts_at : (i n k : ℕ) → k < n → get_or (counts_from count i n) k 0 ≡ count (i + k)
  unfolding counts_from
  counts_at i zero k h = absurd (not-suc-le-zero h)
  counts_at i (suc n) zero h = let e : i + 0 ≡ i = omega arith in rw e
  counts_at i (suc n) (suc k) h = let e : i + suc k ≡ suc i + k = omega arith in rw e (counts_at (suc i) n k (omega arith))

module _ (mask : ℕ) (closed : List ℕ) where
  pub index_length : length (index_of mask closed) ≡ PLACES
  unfolding index_of
  index_length = counts_length (count_at mask closed) 0 PLACES

  pub index_at : (i : ℕ) → i < PLACES → get_or (index_of mask closed) i 0 ≡ count_at mask closed i
  unfolding index_of
  index_at i h = counts_at (count_at mask closed) 0 PLACES i h ∙ ap (count_at mask closed) (let e : 0 + i ≡ i = omega arith in e)

  -- ---- plain counts add up
  pub between_add : (a b c : ℕ) → a ≤ b → b ≤ c → open_between mask closed a c ≡ open_between mask closed a b + open_between mask closed b c
  unfolding open_between
  between_add a b c h i = tally_to (is_open_day mask closed) a b c h i

  pub between_few : (a b : ℕ) → open_between mask closed a b ≤ b - a
  unfolding open_between
  between_few a b = tally_few (is_open_day mask closed) a (b - a)

  pub between_none : (a b : ℕ) → b ≤ a → open_between mask closed a b ≡ 0
  unfolding open_between
  between_none a b h = let e : b - a ≡ 0 = omega arith in rw e (none_counted (is_open_day mask closed) a)

  pub count_at_is : (i : ℕ) → count_at mask closed i ≡ open_between mask closed SPAN_FIRST (year_start i)
  unfolding count_at
  count_at_is i = refl

  pub count_at_few : (i : ℕ) → i ≤ 600 → count_at mask closed i ≤ MOST
  count_at_few i h = omega (arith, count_at_is i, between_few SPAN_FIRST (year_start i), start_to i h)

  -- the difference of two neighbouring counts is the open days of that year
  pub year_count : (i : ℕ) → count_at mask closed (i + 1) ≡ count_at mask closed i + open_between mask closed (year_start i) (year_start (i + 1))
  year_count i =
      count_at_is (i + 1)
      ∙ between_add SPAN_FIRST (year_start i) (year_start (i + 1)) (start_from i) (start_le i (i + 1) (omega arith))
      ∙ ap (λ (n : ℕ). n + open_between mask closed (year_start i) (year_start (i + 1))) (sym (count_at_is i))

  pub count_first : count_at mask closed 0 ≡ 0
  unfolding count_at
  count_first = between_none SPAN_FIRST (year_start 0) (omega (arith, start_first))

  -- ---- the index of the calendar, as it is read
  pub own_count : (i : ℕ) → i < PLACES → count_in (index_of mask closed) i ≡ count_at mask closed i
  unfolding count_in
  own_count i h = omega (arith, index_at i h, count_at_few i (omega arith))

  -- the open days from 1800 on before a day
  pub own_rank : (day : ℕ) → SPAN_FIRST ≤ day → day ≤ SPAN_LAST → rank_by mask closed (index_of mask closed) day ≡ open_between mask closed SPAN_FIRST day
  unfolding rank_by
  own_rank day h i =
      omega (arith, own_count (place_of day) (omega (arith, place_to day h i)), count_at_is (place_of day), between_add SPAN_FIRST (year_start (place_of day)) day (start_from (place_of day)) (place_low day h))

  own_by : (t : Bool) (first last : ℕ) → ltb first last ≡ t → SPAN_FIRST ≤ first → first ≤ SPAN_LAST → SPAN_FIRST ≤ last → last ≤ SPAN_LAST → pick_n t (rank_by mask closed (index_of mask closed) last - rank_by mask closed (index_of mask closed) first) 0 ≡ open_between mask closed first last
  own_by true first last e a b c d =
      omega (arith, own_rank first a b, own_rank last c d, between_add SPAN_FIRST first last a (omega (arith, ltb-true first last e)))
  own_by false first last e a b c d = sym (between_none first last (ltb-false first last e))

  -- ---- count: the plain count, day by day
  pub own_between : (first last : ℕ) → SPAN_FIRST ≤ first → first ≤ SPAN_LAST → SPAN_FIRST ≤ last → last ≤ SPAN_LAST → count_by mask closed (index_of mask closed) first last ≡ open_between mask closed first last
  unfolding count_by
  own_between first last a b c d = own_by (ltb first last) first last refl a b c d
