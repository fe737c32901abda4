-- The k-th open day from a day on: one step over a closed date, and the day where no more are on the way; then the n-th after a day.
-- Assumes nothing.
use Prim.Native.Nat.{ℕ, suc, ◌+◌, ◌-◌, ◌*◌, ◌≤◌, ◌<◌}
use mathlib.Core.Path.{◌≡◌, refl, sym, ap, ◌∙◌}
use mathlib.Core.Bool.{Bool, true, false, not, ◌&&◌}
use mathlib.Core.List.{List}
use native.Mathlib.Omega.{arith}
use lib.Dec.{leb}
use lib.ListN.{length, get_or, drop}
use mir.Syntax.{w8, w32}
use mir.Val.{Fits}
use borrow.Author.Rules.{rules}
use borrow.Author.Tests.{not-true, le-leb, leb-true, leb-false}
use Rattle.refusal.specs.Answer.{Answer, need}
use Rattle.date.specs.Civil.{pick_n}
use Rattle.date.specs.Date.{SPAN_FIRST, SPAN_LAST, within_span, in_book}
use Rattle.calendar.specs.Open.{weekly_closed, member, is_open_day, calendar_ok}
use Rattle.calendar.specs.Inner.Places.{LowerBound}
use Rattle.calendar.specs.Laws.Told.{ok_closed}
use Rattle.opendays.specs.Count.{tally, weekly_open, nth_from, nth_open}
use Rattle.opendays.specs.Index.{MOST, year_start, place_of, count_in, rank_by, year_before, nth_at, nth_by}
use Rattle.opendays.specs.Inner.Steps.{listed_before, listed_from, Rest, After, Found, Halved}
use Rattle.opendays.specs.Laws.Listed.{listed_only, weekly_is, listed_days, rest_on, rest_start, bound_begins}
use Rattle.opendays.specs.Laws.Nth.{found_given, late_refused}
use Rattle.opendays.specs.Laws.Tally.{tally_to, tally_last}
use Rattle.opendays.specs.Laws.Years.{start_from, start_before, place_to}
use Rattle.opendays.proofs.Passing.{sound_few, at_weekly, at_counts, at_stop, at_end_lem}
use Rattle.opendays.proofs.Ranks.{rank_most, book_from, book_to}
use Rattle.opendays.proofs.Weeks.{shut_day, sound_weekday}

-- `passed` closed dates, none weekly closed, lie before the day, and no other that is passed
pub record Moving (mask : ℕ) (closed : List ℕ) (from k day place : ℕ) : Type 0 where
  pub sound : calendar_ok mask closed ≡ true
  pub some : 1 ≤ tally (weekly_open mask) 1 7
  pub begins : SPAN_FIRST ≤ from
  pub low : from ≤ 876216
  pub first : 1 ≤ k
  pub high : k ≤ 300000
  pub few : length closed ≤ 4096
  pub within : place ≤ length closed
  pub passed : ℕ
  pub fewer : passed ≤ place
  pub after : After (weekly_open mask) from (k - 1 + passed) day
  pub soon : day < from + 7 * (k + passed)
  pub small : day < 3900000
  pub counted : (to : ℕ) → day ≤ to → listed_before mask to (listed_from from closed) ≡ passed + listed_before mask to (drop place closed)

pub moving_start : {mask : ℕ} {closed : List ℕ} {from k day at : ℕ} → Fits w8 mask → calendar_ok mask closed ≡ true → 657072 ≤ from → from ≤ 876216 → 1 ≤ k → k ≤ 300000 → Found (weekly_open mask) from (k - 1) (7 * k) day → LowerBound closed from at → Moving mask closed from k day at
moving_start {mask} {closed} {from} {k} {day} {at} f ok a b c d g l =
    let e : k - 1 + 0 ≡ k - 1 = omega arith in
    record {
      sound = ok;
      some = sound_weekday mask closed f ok;
      begins = a;
      low = b;
      first = c;
      high = d;
      few = sound_few mask closed ok;
      within = l.within;
      passed = 0;
      fewer = omega arith;
      after = rw e g.after;
      soon = omega (arith, g.soon);
      small = omega (arith, g.soon);
      counted = λ to h. ap (listed_before mask to) (sym (bound_begins (ok_closed mask closed ok) l)) ∙ omega arith;
    }

module _ {mask : ℕ} {closed : List ℕ} {from k day place : ℕ} (g : Moving mask closed from k day place) where
  pub moving_near : day + 1 ≤ 4000000
  moving_near = omega (arith, g.small)

  pub moving_some : 0 < tally (weekly_open mask) 1 7
  moving_some = g.some

  module _ {w : Bool} (h : place < length closed) (l : get_or closed place 0 ≤ day) (p : w ≡ weekly_closed mask (get_or closed place 0)) where
    -- a date that is weekly closed is not the day, which is not
    other_day : w ≡ true → get_or closed place 0 ≡ day → ⊥
    other_day e q =
        let a : weekly_open mask (get_or closed place 0) ≡ false = shut_day mask (get_or closed place 0) p e in
        let b : weekly_open mask (get_or closed place 0) ≡ true = ap (weekly_open mask) q ∙ g.after.is_such in
        let z : ◌≡◌ {A = Bool} true false = sym b ∙ a in
        let n : ◌≡◌ {A = ℕ} 0 1 = cc in
        omega arith

    pub moving_past : w ≡ true → Moving mask closed from k day (place + 1)
    moving_past e =
        let o : get_or closed place 0 ≡ day → ⊥ = other_day e in
        record {
          sound = g.sound;
          some = g.some;
          begins = g.begins;
          low = g.low;
          first = g.first;
          high = g.high;
          few = g.few;
          within = omega arith;
          passed = g.passed;
          fewer = omega (arith, g.fewer);
          after = g.after;
          soon = g.soon;
          small = g.small;
          counted = λ to q. g.counted to q ∙ ap (λ (m : ℕ). g.passed + m) (at_weekly mask to closed place h (omega arith) (sym p ∙ e));
        }

    pub moving_on : {next : ℕ} → w ≡ false → Found (weekly_open mask) (day + 1) 0 7 next → Moving mask closed from k next (place + 1)
    moving_on {next} e f =
        let o : day + 1 ≤ next = f.after.order in
        let b : from ≤ day = g.after.order in
        let c = g.after.counted in
        let d : k - 1 + (g.passed + 1) ≡ k - 1 + g.passed + 1 = omega arith in
        let t : tally (weekly_open mask) from (day + 1 - from) ≡ k - 1 + g.passed + 1 = tally_last (weekly_open mask) from day b ∙ ap (λ (x : Bool). tally (weekly_open mask) from (day - from) + pick_n x 1 0) g.after.is_such ∙ omega arith in
        let s : day < from + 7 * (k + g.passed) = g.soon in
        let i : g.passed ≤ place = g.fewer in
        record {
          sound = g.sound;
          some = g.some;
          begins = g.begins;
          low = g.low;
          first = g.first;
          high = g.high;
          few = g.few;
          within = omega arith;
          passed = g.passed + 1;
          fewer = omega arith;
          after = record {
            order = omega arith;
            is_such = f.after.is_such;
            counted = tally_to (weekly_open mask) from (day + 1) next (omega arith) o ∙ omega (arith, t, f.after.counted);
          };
          soon = omega (arith, f.soon);
          small = omega (arith, f.soon, g.few, g.low, g.high);
          counted = λ to q. g.counted to (omega arith) ∙ omega (arith, at_counts mask to closed place h (omega arith) (sym p ∙ e));
        }

  -- ---- where no closed date up to the day is left
  module _ (none : (to : ℕ) → to ≤ day + 1 → listed_before mask to (drop place closed) ≡ 0) where
    rest : Rest closed (listed_from from closed) from
    rest = rest_on SPAN_FIRST from closed g.begins (rest_start (ok_closed mask closed g.sound))

    dates_to : (to : ℕ) → day ≤ to → to ≤ day + 1 → tally (listed_only mask closed) from (to - from) ≡ g.passed
    dates_to to a b =
        let o : from ≤ day = g.after.order in
        let e : from + (to - from) ≡ to = omega arith in
        sym (listed_days mask closed (to - from) from (listed_from from closed) rest)
        ∙ ap (λ (x : ℕ). listed_before mask x (listed_from from closed)) e
        ∙ g.counted to a
        ∙ omega (arith, none to b)

    is_open_by : (w m : Bool) → w ≡ false → (not w && m) ≡ false → (not w && not m) ≡ true
    is_open_by false true e h = sym h
    is_open_by false false e h = refl
    is_open_by true m e h = sym e

    is_open : is_open_day mask closed day ≡ true
    unfolding is_open_day listed_only weekly_open
    is_open =
        let a = dates_to day (omega arith) (omega arith) in
        let b = dates_to (day + 1) (omega arith) (omega arith) in
        let c = tally_last (listed_only mask closed) from day g.after.order in
        let z : pick_n (listed_only mask closed day) 1 0 ≡ 0 = omega arith in
        is_open_by (weekly_closed mask day) (member day closed) (not-true (weekly_closed mask day) g.after.is_such) (none_picked (listed_only mask closed day) z)
      where
        none_picked : (b : Bool) → pick_n b 1 0 ≡ 0 → b ≡ false
        none_picked true e = let bad : ⊥ = omega arith in absurd bad
        none_picked false e = refl

    kth_open : After (is_open_day mask closed) from (k - 1) day
    kth_open =
        record {
          order = g.after.order;
          is_such = is_open;
          counted = omega (arith, weekly_is mask closed from (day - from), dates_to day (omega arith) (omega arith), g.after.counted);
        }

    answer_by : (t : Bool) → leb day SPAN_LAST ≡ t → within_span day ≡ nth_open mask closed from k
    unfolding within_span need nth_open
    answer_by true e =
        let h : day ≤ SPAN_LAST = leb-true day SPAN_LAST e in
        let o : from ≤ day = g.after.order in
        let b : SPAN_FIRST ≤ from = g.begins in
        let s : suc (k - 1) ≡ k = omega (arith, g.first) in
        rw (le-leb SPAN_FIRST day (omega arith), e)
        (sym (ap (nth_from (is_open_day mask closed) (SPAN_LAST + 1 - from) from) (sym s) ∙ found_given (is_open_day mask closed) from (k - 1) (SPAN_LAST + 1 - from) day (record { after = kth_open; soon = omega arith })))
    answer_by false e =
        let h : SPAN_LAST < day = leb-false day SPAN_LAST e in
        let b : SPAN_FIRST ≤ from = g.begins in
        let l : from ≤ 876216 = g.low in
        let s : suc (k - 1) ≡ k = omega (arith, g.first) in
        rw (le-leb SPAN_FIRST day (omega arith), e)
        (sym (ap (nth_from (is_open_day mask closed) (SPAN_LAST + 1 - from) from) (sym s) ∙ late_refused (is_open_day mask closed) from (k - 1) (SPAN_LAST + 1 - from) day kth_open (omega arith)))

    answer : within_span day ≡ nth_open mask closed from k
    answer = answer_by (leb day SPAN_LAST) refl

  pub moving_stop : (r : Answer ℕ) → r ≡ within_span day → place < length closed → day < get_or closed place 0 → r ≡ nth_open mask closed from k
  moving_stop r e h l = e ∙ answer (λ to b. at_stop mask to closed place h (omega arith))

  pub moving_end : (r : Answer ℕ) → r ≡ within_span day → length closed ≤ place → r ≡ nth_open mask closed from k
  moving_end r e h = e ∙ answer (λ to b. at_end_lem mask to closed place h)

pub ruleset moving = (moving_start, sound_weekday, moving_near, moving_some, moving_past, moving_on, moving_stop, moving_end, rules)

-- ---- the n-th open day after a day
module _ (day : ℕ) (book : in_book day ≡ true) where
  pub next_from_lem : 657072 ≤ day + 1
  next_from_lem = omega (arith, book_from day book)

  pub next_to : day + 1 ≤ 876216
  next_to = omega (arith, book_to day book)

  pub next_fits : Fits w32 (day + 1)
  next_fits = record { fits = omega (arith, book_to day book) }

module _ (mask : ℕ) (closed index : List ℕ) (day n rank : ℕ) (r : rank ≡ rank_by mask closed index (day + 1)) (book : in_book day ≡ true) (some : 1 ≤ n) (few : n ≤ 366) where
  most : rank ≤ MOST + 366
  most = omega (arith, rank_most mask closed index (day + 1) (next_from_lem day book))

  pub nth_fits : Fits w32 (rank + n)
  nth_fits = record { fits = omega (arith, most) }

  module _ (place : ℕ) (p : place ≡ place_of (day + 1)) where
    pub nth_low : place < 600
    nth_low = omega (arith, place_to (day + 1) (next_from_lem day book) (next_to day book))

    pub nth_below : count_in index place < rank + n
    unfolding rank_by
    nth_below =
        let c : count_in index place ≡ count_in index (place_of (day + 1)) = ap (count_in index) p in
        omega arith

    module _ (year : ℕ) (h : Halved index (rank + n) place year) where
      pub nth_place : length index ≡ 601 → year < length index
      nth_place l = omega (arith, h.high)

      pub nth_year : year ≤ 600
      nth_year = omega (arith, h.high)

      module _ (count : ℕ) (c : count ≡ count_in index year) where
        pub nth_less : count ≤ rank + n
        nth_less = omega (arith, h.below)

        module _ (start : ℕ) (s : start ≡ year_start year) where
          pub nth_from_lem : 657072 ≤ start
          nth_from_lem = omega (arith, start_from year)

          pub nth_to : start ≤ 876216
          nth_to = omega (arith, start_before year h.high)

          pub nth_some : 1 ≤ rank + n - count
          nth_some = omega (arith, h.below)

          pub nth_few : rank + n - count ≤ 300000
          nth_few = omega (arith, most)

          pub nth_is : (a : Answer ℕ) → a ≡ nth_open mask closed start (rank + n - count) → a ≡ nth_by mask closed index day n
          unfolding nth_by nth_at
          nth_is a e =
              let q : year ≡ year_before index (rank + n) 600 (place_of (day + 1)) 600 = h.same ∙ ap (λ (x : ℕ). year_before index (rank + n) 600 x 600) p in
              e ∙ ap (λ (x : ℕ). nth_open mask closed x (rank + n - count)) s ∙ ap (λ (x : ℕ). nth_open mask closed (year_start year) (rank + n - x)) c ∙ ap (λ (x : ℕ). nth_open mask closed (year_start x) (rank + n - count_in index x)) q ∙ ap (λ (x : ℕ). nth_at mask closed index (x + n) (year_before index (x + n) 600 (place_of (day + 1)) 600)) r

pub ruleset nth_ways = (next_from_lem, next_to, next_fits, nth_fits, nth_low, nth_below, nth_place, nth_year, nth_less, nth_from_lem, nth_to, nth_some, nth_few, nth_is, rules)
