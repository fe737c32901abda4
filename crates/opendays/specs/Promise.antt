-- Request L9, what is promised on the calendar's own index: count is the day-by-day count, the n-th is the one open day after with exactly n, and
-- a change gives the index of the changed calendar. On every index a change touches only counts of later years.
-- Assumes nothing.
use Prim.Native.Nat.{ℕ, zero, suc, ◌+◌, ◌-◌, ◌≤◌, ◌<◌}
use Rattle.std.specs.Prelude.{◌≡◌, Bool, ◌||◌, List, [], ◌∷◌, eqb, leb, ltb, pos, nat_abs, length, get_or, take}
use Rattle.std.proofs.Math.Path.{refl, sym, ap}
use Rattle.std.proofs.Common.{◌∙◌}
use Rattle.std.proofs.Math.Bool.{true, false}
use native.Mathlib.Omega.{arith}
use borrow.Author.Tests.{eq-eqb, eqb-true, leb-true, le-leb, ltb-true}
use Rattle.refusal.specs.Answer.{Answer, given, need, then, BOOK, CALENDAR, TENOR, INDEX, SAME, FULL}
use Rattle.refusal.specs.Laws.Answers.{need_given, holds, one_given, then_stepped, both}
use Rattle.period.specs.declared.Unit.TheVariants.{Days}
use Rattle.date.specs.Civil.{pick_n, leap, row_of, gone, sum_to, day_number}
use Rattle.date.specs.Date.{SPAN_FIRST, SPAN_LAST, in_book, step}
use Rattle.calendar.specs.declared.Convention.{Convention}
use Rattle.calendar.specs.Open.{weekly_closed, member, is_open_day, calendar_ok}
use Rattle.calendar.specs.AnyCalendar as any
use Rattle.calendar.specs.Adjust.{in_span, adjusted, towards, open_steps}
use Rattle.calendar.specs.Calendar.{tenor_ok, advanced_of}
use Rattle.calendar.specs.Laws.Search.{First, adjusted_first}
use Rattle.opendays.specs.Count.{tally, open_between, nth_from, nth_open}
use Rattle.opendays.specs.Index.{PLACES, year_start, place_of, index_of, onwards}
use Rattle.opendays.specs.OpenDays.{indexed, count_of, nth_of, add_of, unless_weekly, remove_of, with_date, without_date}
use Rattle.opendays.specs.Inner.Steps.{After}
use Rattle.opendays.specs.Laws.Changed.{with_keeps, without_keeps, with_differs, without_differs, index_down, index_up, weekly_stays, with_member, put_and_left, open_parts}
use Rattle.opendays.specs.Laws.Index.{index_length, index_at, own_between, year_count}
use Rattle.opendays.specs.Laws.Nth.{given_from, found_given, given_found, one_after}
use Rattle.opendays.specs.Laws.Own.{own_nth, enough_open}
use Rattle.opendays.specs.Laws.Stepped.{onwards_length, onwards_take}
use Rattle.opendays.specs.Laws.Tally.{tally_last, tally_to, tally_none}
use Rattle.opendays.specs.Laws.Years.{place_to}

-- ---- tests that hold, on the calendar's own index
need_when : {A : Type 0} (n : ℕ) (b : Bool) (x y : Answer A) → (b ≡ true → x ≡ y) → need n b x ≡ need n b y
unfolding need
need_when n true x y h = h refl
need_when n false x y h = refl

own_indexed : {A : Type 0} (mask : ℕ) (closed : List ℕ) (a : Answer A) → indexed mask closed (index_of mask closed) a ≡ need CALENDAR (calendar_ok mask closed) a
unfolding indexed
own_indexed mask closed a =
    ap (need CALENDAR (calendar_ok mask closed))
    (sym (holds INDEX (eqb (length (index_of mask closed)) PLACES) a a (eq-eqb (length (index_of mask closed)) PLACES (index_length mask closed)) refl))

book_low : (day : ℕ) → in_book day ≡ true → 693961 ≤ day
unfolding in_book
book_low day h = leb-true 693961 day (both (leb 693961 day) _ h).0

book_high : (day : ℕ) → in_book day ≡ true → day ≤ 803168
unfolding in_book
book_high day h = leb-true day 803168 (both (leb 693961 day) _ h).1

span_low : (day : ℕ) → in_span day ≡ true → SPAN_FIRST ≤ day
unfolding in_span
span_low day h = leb-true SPAN_FIRST day (both (leb SPAN_FIRST day) _ h).0

span_high : (day : ℕ) → in_span day ≡ true → day ≤ SPAN_LAST
unfolding in_span
span_high day h = leb-true day SPAN_LAST (both (leb SPAN_FIRST day) _ h).1

module _ (mask : ℕ) (closed : List ℕ) where
  -- ---- count: the open days from the first day up to, and without, the last, one by one
  pub count_plain : (first last : ℕ) → count_of mask closed (index_of mask closed) first last ≡ need CALENDAR (calendar_ok mask closed) (need BOOK (in_book first) (need BOOK (in_book last) (given (open_between mask closed first last))))
  unfolding count_of
  count_plain first last =
      own_indexed mask closed _
      ∙ ap (need CALENDAR (calendar_ok mask closed))
      (need_when BOOK (in_book first) _ _ (λ p. need_when BOOK (in_book last) _ _ (λ q. ap given (own_between mask closed first last (omega (arith, book_low first p)) (omega (arith, book_high first p)) (omega (arith, book_low last q)) (omega (arith, book_high last q))))))

  -- ---- the n-th: searched for day by day from the day after
  pub nth_plain : (day n : ℕ) → nth_of mask closed (index_of mask closed) day n ≡ need CALENDAR (calendar_ok mask closed) (need BOOK (in_book day) (need TENOR (leb 1 n) (need TENOR (leb n 366) (nth_open mask closed (day + 1) n))))
  unfolding nth_of
  nth_plain day n =
      own_indexed mask closed _
      ∙ ap (need CALENDAR (calendar_ok mask closed))
      (need_when BOOK (in_book day) _ _ (λ p. need_when TENOR (leb 1 n) _ _ (λ q. ap (need TENOR (leb n 366)) (own_nth mask closed day n (omega (arith, book_low day p)) (omega (arith, book_high day p)) (leb-true 1 n q)))))

  -- an open day after the day, with exactly n open days from the day after up to it
  pub record IsNth (day n r : ℕ) : Type 0 where
    pub later : day < r
    pub is_open : is_open_day mask closed r ≡ true
    pub exactly : open_between mask closed (day + 1) (r + 1) ≡ n

  nth_after : (day n r : ℕ) → IsNth day n r → After (is_open_day mask closed) (day + 1) (n - 1) r
  unfolding open_between
  nth_after day n r h =
      let l : day < r = h.later in
      let e : tally (is_open_day mask closed) (day + 1) (r + 1 - (day + 1)) ≡ tally (is_open_day mask closed) (day + 1) (r - (day + 1)) + 1 = tally_last (is_open_day mask closed) (day + 1) r (omega arith) ∙ ap (λ (t : Bool). tally (is_open_day mask closed) (day + 1) (r - (day + 1)) + pick_n t 1 0) h.is_open in
      record { order = omega arith; is_such = h.is_open; counted = omega (arith, h.exactly) }

  after_nth : (day n r : ℕ) → 1 ≤ n → After (is_open_day mask closed) (day + 1) (n - 1) r → IsNth day n r
  unfolding open_between
  after_nth day n r h a =
      let o : day + 1 ≤ r = a.order in
      let e : tally (is_open_day mask closed) (day + 1) (r + 1 - (day + 1)) ≡ tally (is_open_day mask closed) (day + 1) (r - (day + 1)) + 1 = tally_last (is_open_day mask closed) (day + 1) r o ∙ ap (λ (t : Bool). tally (is_open_day mask closed) (day + 1) (r - (day + 1)) + pick_n t 1 0) a.is_such in
      record { later = omega arith; is_open = a.is_such; exactly = omega (arith, a.counted) }

  -- such a day is the only one
  pub one_nth : (day n r s : ℕ) → IsNth day n r → IsNth day n s → r ≡ s
  one_nth day n r s h i = one_after (is_open_day mask closed) (day + 1) (n - 1) r s (nth_after day n r h) (nth_after day n s i)

  open_nth : (day n r : ℕ) → 1 ≤ n → nth_open mask closed (day + 1) n ≡ given r → IsNth day n r
  unfolding nth_open
  open_nth day n r h e =
      let k : suc (n - 1) ≡ n = omega arith in
      after_nth day n r h (given_found (is_open_day mask closed) (day + 1) (n - 1) (SPAN_LAST + 1 - (day + 1)) r (ap (nth_from (is_open_day mask closed) (SPAN_LAST + 1 - (day + 1)) (day + 1)) k ∙ e)).after

  nth_open_lem : (day n r : ℕ) → 1 ≤ n → r ≤ SPAN_LAST → IsNth day n r → nth_open mask closed (day + 1) n ≡ given r
  unfolding nth_open
  nth_open_lem day n r h l i =
      let k : suc (n - 1) ≡ n = omega arith in
      let o : day < r = i.later in
      ap (nth_from (is_open_day mask closed) (SPAN_LAST + 1 - (day + 1)) (day + 1)) (sym k)
      ∙ found_given (is_open_day mask closed) (day + 1) (n - 1) (SPAN_LAST + 1 - (day + 1)) r (record { after = nth_after day n r i; soon = omega arith })

  -- what is answered is the n-th, and the n-th is answered
  pub nth_is : (day n r : ℕ) → nth_of mask closed (index_of mask closed) day n ≡ given r → IsNth day n r
  nth_is day n r h =
      let a = need_given CALENDAR (calendar_ok mask closed) _ r (sym (nth_plain day n) ∙ h) in
      let b = need_given BOOK (in_book day) _ r a.1 in
      let c = need_given TENOR (leb 1 n) _ r b.1 in
      let d = need_given TENOR (leb n 366) _ r c.1 in
      open_nth day n r (leb-true 1 n c.0) d.1

  pub is_nth : (day n r : ℕ) → calendar_ok mask closed ≡ true → in_book day ≡ true → 1 ≤ n → n ≤ 366 → r ≤ SPAN_LAST → IsNth day n r → nth_of mask closed (index_of mask closed) day n ≡ given r
  is_nth day n r ok book some few l i =
      nth_plain day n
      ∙ sym (holds CALENDAR (calendar_ok mask closed) _ (given r) ok (holds BOOK (in_book day) _ (given r) book (holds TENOR (leb 1 n) _ (given r) (le-leb 1 n some) (holds TENOR (leb n 366) _ (given r) (le-leb n 366 few) (sym (nth_open_lem day n r some l i))))))

  -- a sound calendar has one, before 2286
  pub record Answered (day n : ℕ) : Type 0 where
    pub result : ℕ
    pub answer : nth_of mask closed (index_of mask closed) day n ≡ given result
    pub nth : IsNth day n result
    pub early : result < day_number 2286 1 1

  year_2286 : day_number 2286 1 1 ≡ 834580
  unfolding day_number gone sum_to row_of leap
  year_2286 = refl

  pub nth_answered : (day n : ℕ) → mask < 256 → calendar_ok mask closed ≡ true → in_book day ≡ true → 1 ≤ n → n ≤ 366 → Answered day n
  nth_answered day n small ok book some few =
      let l = book_low day book in
      let h = book_high day book in
      let k : suc (n - 1) ≡ n = omega arith in
      let e = enough_open mask closed (day + 1) 4462 small ok (omega arith) in
      let g = given_from (is_open_day mask closed) 31234 (day + 1) (n - 1) (omega arith) in
      let i = after_nth day n g.day some g.found.after in
      let s : g.day < day + 1 + 31234 = g.found.soon in
      record {
        result = g.day;
        answer = is_nth day n g.day ok book some few (omega arith) i;
        nth = i;
        early = omega (arith, year_2286);
      }

  -- ---- where calendar advance by n days is answered, it answers the n-th
  first_after : (day r : ℕ) → First (is_open_day mask closed) false 31 (day + 1) r → After (is_open_day mask closed) (day + 1) 0 r
  unfolding step
  first_after day r f =
      let t : r ≡ day + 1 + f.steps = f.there in
      record {
        order = omega arith;
        is_such = f.is_open;
        counted = tally_none (is_open_day mask closed) (day + 1) (r - (day + 1)) (λ d a b. between d a (omega arith));
      }
    where
      between : (d : ℕ) → day + 1 ≤ d → d < r → is_open_day mask closed d ≡ false
      between d a b =
          let t : r ≡ day + 1 + f.steps = f.there in
          let e : day + 1 + (d - (day + 1)) ≡ d = omega arith in
          ap (is_open_day mask closed) (sym e) ∙ f.passed_over (d - (day + 1)) (omega arith)

  steps_after : (n day r : ℕ) → open_steps mask closed false (suc n) day ≡ given r → After (is_open_day mask closed) (day + 1) n r
  unfolding any.open_steps step
  steps_after zero day r h =
      let s = then_stepped (adjusted mask closed (towards false) (day + 1)) (open_steps mask closed false 0) r h in
      let e : s.value ≡ r = one_given _ s.value r refl s.to in
      first_after day r (rw e at (adjusted_first (is_open_day mask closed) false (day + 1) s.value s.from))
  steps_after (suc n) day r h =
      let s = then_stepped (adjusted mask closed (towards false) (day + 1)) (open_steps mask closed false (suc n)) r h in
      let m = s.value in
      let f = first_after day m (adjusted_first (is_open_day mask closed) false (day + 1) m s.from) in
      let i = steps_after n m r s.to in
      let a : day + 1 ≤ m = f.order in
      let b : m + 1 ≤ r = i.order in
      let t : tally (is_open_day mask closed) (day + 1) (m + 1 - (day + 1)) ≡ tally (is_open_day mask closed) (day + 1) (m - (day + 1)) + 1 = tally_last (is_open_day mask closed) (day + 1) m a ∙ ap (λ (x : Bool). tally (is_open_day mask closed) (day + 1) (m - (day + 1)) + pick_n x 1 0) f.is_such in
      record {
        order = omega arith;
        is_such = i.is_such;
        counted = tally_to (is_open_day mask closed) (day + 1) (m + 1) r (omega arith) b ∙ omega (arith, f.counted, i.counted);
      }

  pub advance_is_nth : (day n r : ℕ) (convention : Convention) (endOfMonth : Bool) → 1 ≤ n → advanced_of mask closed (pos n) Days convention endOfMonth day ≡ given r → IsNth day n r
  unfolding advanced_of any.advanced any.by_unit
  advance_is_nth day n r convention endOfMonth some h =
      let a = need_given BOOK (in_book day) _ r h in
      let b = need_given CALENDAR (calendar_ok mask closed) _ r a.1 in
      let c = need_given TENOR (tenor_ok (nat_abs (pos n)) Days) _ r b.1 in
      let d = need_given BOOK (in_span day) _ r c.1 in
      let k : suc (n - 1) ≡ n = omega arith in
      after_nth day n r some (steps_after (n - 1) day r (ap (λ (x : ℕ). open_steps mask closed false x day) k ∙ d.1))

  -- ---- one closed date more, or less
  module _ (index : List ℕ) (x : ℕ) where
    -- what a change that was done went through
    pub record Adds (new : List ℕ) : Type 0 where
      pub sound : calendar_ok mask closed ≡ true
      pub sized : length index ≡ PLACES
      pub in_span_lem : in_span x ≡ true
      pub was_open : is_open_day mask closed x ≡ true
      pub room : length closed < 4096
      pub result : new ≡ onwards false (place_of x + 1) index

    pub adds : (new : List ℕ) → add_of mask closed index x ≡ given new → Adds new
    unfolding add_of indexed
    adds new h =
        let a = need_given CALENDAR (calendar_ok mask closed) _ new h in
        let b = need_given INDEX (eqb (length index) PLACES) _ new a.1 in
        let c = need_given BOOK (in_span x) _ new b.1 in
        let d = need_given SAME (is_open_day mask closed x) _ new c.1 in
        let e = need_given FULL (ltb (length closed) 4096) _ new d.1 in
        record {
          sound = a.0;
          sized = eqb-true (length index) PLACES b.0;
          in_span_lem = c.0;
          was_open = d.0;
          room = ltb-true (length closed) 4096 e.0;
          result = sym (one_given _ (onwards false (place_of x + 1) index) new refl e.1);
        }

    pub record Removes (new : List ℕ) : Type 0 where
      pub sound : calendar_ok mask closed ≡ true
      pub sized : length index ≡ PLACES
      pub in_span_lem : in_span x ≡ true
      pub was_listed : member x closed ≡ true
      pub result : new ≡ unless_weekly (weekly_closed mask x) (place_of x + 1) index

    pub removes : (new : List ℕ) → remove_of mask closed index x ≡ given new → Removes new
    unfolding remove_of indexed
    removes new h =
        let a = need_given CALENDAR (calendar_ok mask closed) _ new h in
        let b = need_given INDEX (eqb (length index) PLACES) _ new a.1 in
        let c = need_given BOOK (in_span x) _ new b.1 in
        let d = need_given SAME (member x closed) _ new c.1 in
        record {
          sound = a.0;
          sized = eqb-true (length index) PLACES b.0;
          in_span_lem = c.0;
          was_listed = d.0;
          result = sym (one_given _ (unless_weekly (weekly_closed mask x) (place_of x + 1) index) new refl d.1);
        }

    -- on every index: the counts up to the date's year are as they were, and there are as many
    pub record Later (new : List ℕ) : Type 0 where
      pub kept : take (place_of x + 1) new ≡ take (place_of x + 1) index
      pub long : length new ≡ length index

    stepped_later : (up : Bool) → in_span x ≡ true → length index ≡ PLACES → Later (onwards up (place_of x + 1) index)
    stepped_later up s l =
        let p : place_of x + 1 ≤ length index = omega (arith, place_to x (span_low x s) (span_high x s)) in
        record { kept = onwards_take up (place_of x + 1) index p; long = onwards_length up (place_of x + 1) index p }

    pub add_later : (new : List ℕ) → add_of mask closed index x ≡ given new → Later new
    add_later new h = let a = adds new h in rw a.result (stepped_later false a.in_span_lem a.sized)

    unless_later : (t : Bool) → in_span x ≡ true → length index ≡ PLACES → Later (unless_weekly t (place_of x + 1) index)
    unfolding unless_weekly
    unless_later true s l = record { kept = refl; long = refl }
    unless_later false s l = stepped_later true s l

    pub remove_later : (new : List ℕ) → remove_of mask closed index x ≡ given new → Later new
    remove_later new h = let a = removes new h in rw a.result (unless_later (weekly_closed mask x) a.in_span_lem a.sized)

  -- on the calendar's own: the index of the changed calendar, which keeps its rule
  pub record Belongs (closed' new : List ℕ) : Type 0 where
    pub sound : calendar_ok mask closed' ≡ true
    pub index : new ≡ index_of mask closed'

  pub add_own : (x : ℕ) (new : List ℕ) → add_of mask closed (index_of mask closed) x ≡ given new → Belongs (with_date x closed) new
  add_own x new h =
      let a = adds (index_of mask closed) x new h in
      let lo = span_low x a.in_span_lem in
      let hi = span_high x a.in_span_lem in
      record {
        sound = with_keeps mask closed x a.sound lo hi (open_parts mask closed x a.was_open).1 a.room;
        index = a.result ∙ index_down mask closed (with_date x closed) x lo (with_differs mask closed x a.was_open) hi;
      }

  left_out : (x : ℕ) (t : Bool) → weekly_closed mask x ≡ t → calendar_ok mask closed ≡ true → in_span x ≡ true → member x closed ≡ true → unless_weekly t (place_of x + 1) (index_of mask closed) ≡ index_of mask (without_date x closed)
  unfolding unless_weekly
  left_out x true w ok s m = sym (weekly_stays mask closed x w)
  left_out x false w ok s m = index_up mask (without_date x closed) closed x (span_low x s) (without_differs mask closed x ok w m) (span_high x s)

  pub remove_own : (x : ℕ) (new : List ℕ) → remove_of mask closed (index_of mask closed) x ≡ given new → Belongs (without_date x closed) new
  remove_own x new h =
      let a = removes (index_of mask closed) x new h in
      record {
        sound = without_keeps mask closed x a.sound;
        index = a.result ∙ left_out x (weekly_closed mask x) refl a.sound a.in_span_lem a.was_listed;
      }

  -- ---- the difference of two neighbouring counts is the open days of that year
  pub year_difference : (i : ℕ) → i < 600 → get_or (index_of mask closed) (i + 1) 0 - get_or (index_of mask closed) i 0 ≡ open_between mask closed (year_start i) (year_start (i + 1))
  year_difference i h = omega (arith, index_at mask closed i (omega arith), index_at mask closed (i + 1) (omega arith), year_count mask closed i)

-- ---- a date added and removed again: the index of before
pub add_then_remove : (mask : ℕ) (closed : List ℕ) (x : ℕ) (new : List ℕ) → add_of mask closed (index_of mask closed) x ≡ given new → remove_of mask (with_date x closed) new x ≡ given (index_of mask closed)
unfolding remove_of indexed
add_then_remove mask closed x new h =
    let a = adds mask closed (index_of mask closed) x new h in
    let b = add_own mask closed x new h in
    let p = open_parts mask closed x a.was_open in
    let m : member x (with_date x closed) ≡ true = with_member x x closed ∙ ap (λ (t : Bool). t || member x closed) (eq-eqb x x refl) in
    let n : length new ≡ PLACES = ap length b.index ∙ index_length mask (with_date x closed) in
    let r : unless_weekly (weekly_closed mask x) (place_of x + 1) new ≡ index_of mask closed = ap (unless_weekly (weekly_closed mask x) (place_of x + 1)) b.index ∙ left_out mask (with_date x closed) x (weekly_closed mask x) refl b.sound a.in_span_lem m ∙ ap (index_of mask) (put_and_left x closed p.1) in
    sym
    (holds CALENDAR (calendar_ok mask (with_date x closed)) _ _ b.sound
    (holds INDEX (eqb (length new) PLACES) _ _ (eq-eqb (length new) PLACES n)
    (holds BOOK (in_span x) _ _ a.in_span_lem
    (holds SAME (member x (with_date x closed)) _ _ m (ap given (sym r))))))

-- ---- any chain of changes that were done, each with the list as before it, ends with the index of the calendar at its end
pub data Change : Type 0 where
  plus : ℕ → Change
  minus : ℕ → Change

unfoldable pub list_after : Change → List ℕ → List ℕ
list_after (plus x) closed = with_date x closed
list_after (minus x) closed = without_date x closed

unfoldable pub change_of : Change → ℕ → List ℕ → List ℕ → Answer (List ℕ)
change_of (plus x) mask closed index = add_of mask closed index x
change_of (minus x) mask closed index = remove_of mask closed index x

-- the closed list at the end, and the index
unfoldable pub list_at_end : List Change → List ℕ → List ℕ
list_at_end [] closed = closed
list_at_end (c ∷ cs) closed = list_at_end cs (list_after c closed)

unfoldable pub changes_of : List Change → ℕ → List ℕ → List ℕ → Answer (List ℕ)
changes_of [] mask closed index = given index
changes_of (c ∷ cs) mask closed index = then (change_of c mask closed index) (changes_of cs mask (list_after c closed))

one_change : (c : Change) (mask : ℕ) (closed new : List ℕ) → change_of c mask closed (index_of mask closed) ≡ given new → new ≡ index_of mask (list_after c closed)
unfolding change_of list_after
one_change (plus x) mask closed new h = (add_own mask closed x new h).index
one_change (minus x) mask closed new h = (remove_own mask closed x new h).index

pub chain_own : (cs : List Change) (mask : ℕ) (closed new : List ℕ) → changes_of cs mask closed (index_of mask closed) ≡ given new → new ≡ index_of mask (list_at_end cs closed)
unfolding changes_of list_at_end
chain_own [] mask closed new h = sym (one_given _ (index_of mask closed) new refl h)
chain_own (c ∷ cs) mask closed new h =
    let s = then_stepped (change_of c mask closed (index_of mask closed)) (changes_of cs mask (list_after c closed)) new h in
    let e : s.value ≡ index_of mask (list_after c closed) = one_change c mask closed s.value s.from in
    chain_own cs mask (list_after c closed) new (ap (changes_of cs mask (list_after c closed)) (sym e) ∙ s.to)
