-- One closed date more or less: which days are listed then, that the list keeps its rule, and by how much each count of the index moves.
-- Assumes nothing.
use Rattle.std.specs.Prelude.{ℕ, suc, ◌+◌, ◌-◌, ◌%◌, ◌≤◌, ◌<◌, ◌≡◌, Bool, not, ◌||◌, List, [], ◌∷◌, eqb, leb, ltb, length, get_or}
use Rattle.std.proofs.Math.Path.{refl, sym}
use Rattle.std.proofs.Common.{ap, ◌∙◌, arith, ext_get_or}
use Rattle.std.proofs.Math.Bool.{true, false}
use Rattle.std.proofs.lemmas.Bool.{false≢true}
use borrow.Author.Tests.{eq-eqb, ne_eqb, eqb-true, eqb-false, ltb-true, ltb-false, lt-ltb, le-leb, leb-true, not-true}
use Rattle.refusal.specs.Laws.Answers.{both}
use Rattle.date.specs.Civil.{pick_n}
use Rattle.date.specs.Date.{SPAN_FIRST, SPAN_LAST}
use Rattle.calendar.specs.Open.{weekly_closed, member, is_open_day, ascending, closed_ok, calendar_ok}
use Rattle.opendays.specs.Count.{tally, open_between}
use Rattle.opendays.specs.Index.{PLACES, MOST, year_start, place_of, count_at, index_of, stepped, onwards}
use Rattle.opendays.specs.OpenDays.{put_by, with_date, leave_by, without_date}
use Rattle.opendays.specs.Laws.Index.{index_length, index_at, count_at_few}
use Rattle.opendays.specs.Laws.Listed.{asc_first, asc_rest, asc_raise, member_skip, member_above}
use Rattle.opendays.specs.Laws.Stepped.{onwards_length, onwards_before, onwards_from}
use Rattle.opendays.specs.Laws.Tally.{tally_same, tally_sum, tally_none, tally_to, tally_last}
use Rattle.opendays.specs.Laws.Years.{start_from, later_place, no_later_place, place_to}

-- ---- the list with a date put in its place
swap : (a b c : Bool) → (a || (b || c)) ≡ (b || (a || c))
swap true true c = refl
swap true false c = refl
swap false b c = refl

put_member : (t : Bool) (x y d : ℕ) (ys more : List ℕ) → member d more ≡ (eqb x d || member d ys) → member d (put_by t x y ys more) ≡ (eqb x d || member d (y ∷ ys))
unfolding put_by member
put_member true x y d ys more h = refl
put_member false x y d ys more h = ap (λ (b : Bool). eqb y d || b) h ∙ swap (eqb y d) (eqb x d) (member d ys)

pub with_member : (x d : ℕ) (xs : List ℕ) → member d (with_date x xs) ≡ (eqb x d || member d xs)
unfolding with_date member
with_member x d [] = refl
with_member x d (y ∷ ys) = put_member (ltb x y) x y d ys (with_date x ys) (with_member x d ys)

put_length : (t : Bool) (x y : ℕ) (ys more : List ℕ) → length more ≡ suc (length ys) → length (put_by t x y ys more) ≡ suc (suc (length ys))
unfolding put_by
put_length true x y ys more h = refl
put_length false x y ys more h = ap suc h

pub with_length : (x : ℕ) (xs : List ℕ) → length (with_date x xs) ≡ suc (length xs)
unfolding with_date
with_length x [] = refl
with_length x (y ∷ ys) = put_length (ltb x y) x y ys (with_date x ys) (with_length x ys)

asc_cons : (low high x : ℕ) (xs : List ℕ) → low ≤ x → x ≤ high → ascending (x + 1) high xs ≡ true → ascending low high (x ∷ xs) ≡ true
unfolding ascending
asc_cons low high x xs a b e = rw (le-leb low x a, le-leb x high b) e

asc_high : (low high x : ℕ) (xs : List ℕ) → ascending low high (x ∷ xs) ≡ true → x ≤ high
unfolding ascending
asc_high low high x xs e = leb-true x high (both (leb x high) _ (both (leb low x) _ e).1).0

not_first : (x y : ℕ) (ys : List ℕ) → member x (y ∷ ys) ≡ false → (y ≡ x → ⊥) × (member x ys ≡ false)
unfolding member
not_first x y ys h = by (eqb y x) refl h
  where
    by : (t : Bool) → eqb y x ≡ t → (t || member x ys) ≡ false → (y ≡ x → ⊥) × (member x ys ≡ false)
    by true e g = absurd (false≢true (sym g))
    by false e g = (eqb-false y x e, g)

put_ascends : (t : Bool) (low high x y : ℕ) (ys : List ℕ) → ltb x y ≡ t → low ≤ x → x ≤ high → (y ≡ x → ⊥) → ascending low high (y ∷ ys) ≡ true → (y + 1 ≤ x → ascending (y + 1) high (with_date x ys) ≡ true) → ascending low high (put_by t x y ys (with_date x ys)) ≡ true
unfolding put_by
put_ascends true low high x y ys e a b n h i =
    asc_cons low high x (y ∷ ys) a b (asc_raise low (x + 1) high y ys (omega (arith, ltb-true x y e)) h)
put_ascends false low high x y ys e a b n h i =
    let g : y ≤ x = ltb-false x y e in
    asc_cons low high y (with_date x ys) (asc_first low high y ys h) (asc_high low high y ys h) (i (omega arith))

pub with_ascends : (low high x : ℕ) (xs : List ℕ) → low ≤ x → x ≤ high → member x xs ≡ false → ascending low high xs ≡ true → ascending low high (with_date x xs) ≡ true
unfolding with_date ascending
with_ascends low high x [] a b m h = rw (le-leb low x a, le-leb x high b) refl
with_ascends low high x (y ∷ ys) a b m h =
    let n = not_first x y ys m in
    put_ascends (ltb x y) low high x y ys refl a b n.0 h (λ g. with_ascends (y + 1) high x ys g b n.1 (asc_rest low high y ys h))

-- ---- the list with a date left out
asc_lower : (low low' high : ℕ) (xs : List ℕ) → low' ≤ low → ascending low high xs ≡ true → ascending low' high xs ≡ true
unfolding ascending
asc_lower low low' high [] h e = refl
asc_lower low low' high (x ∷ xs) h e = asc_raise low low' high x xs (omega (arith, asc_first low high x xs e)) e

leave_ascends : (t : Bool) (low high x y : ℕ) (ys : List ℕ) → ascending low high (y ∷ ys) ≡ true → ascending (y + 1) high (without_date x ys) ≡ true → ascending low high (leave_by t y ys (without_date x ys)) ≡ true
unfolding leave_by
leave_ascends true low high x y ys h i = asc_lower (y + 1) low high ys (omega (arith, asc_first low high y ys h)) (asc_rest low high y ys h)
leave_ascends false low high x y ys h i = asc_cons low high y (without_date x ys) (asc_first low high y ys h) (asc_high low high y ys h) i

pub without_ascends : (low high x : ℕ) (xs : List ℕ) → ascending low high xs ≡ true → ascending low high (without_date x xs) ≡ true
unfolding without_date
without_ascends low high x [] h = h
without_ascends low high x (y ∷ ys) h = leave_ascends (eqb y x) low high x y ys h (without_ascends (y + 1) high x ys (asc_rest low high y ys h))

leave_length : (t : Bool) (y : ℕ) (ys less : List ℕ) → length less ≤ length ys → length (leave_by t y ys less) ≤ suc (length ys)
unfolding leave_by
leave_length true y ys less h = omega arith
leave_length false y ys less h = omega arith

pub without_length : (x : ℕ) (xs : List ℕ) → length (without_date x xs) ≤ length xs
unfolding without_date
without_length x [] = omega arith
without_length x (y ∷ ys) = leave_length (eqb y x) y ys (without_date x ys) (without_length x ys)

-- the other days are as they were, and the date is gone
leave_other : (t : Bool) (x y d : ℕ) (ys less : List ℕ) → eqb y x ≡ t → (x ≡ d → ⊥) → member d less ≡ member d ys → member d (leave_by t y ys less) ≡ member d (y ∷ ys)
unfolding leave_by member
leave_other true x y d ys less e n h =
    let q : y ≡ x = eqb-true y x e in
    sym (rw (ne_eqb y d (λ p. n (sym q ∙ p))))
leave_other false x y d ys less e n h = ap (λ (b : Bool). eqb y d || b) h

pub without_other : (x d : ℕ) (xs : List ℕ) → (x ≡ d → ⊥) → member d (without_date x xs) ≡ member d xs
unfolding without_date
without_other x d [] n = refl
without_other x d (y ∷ ys) n = leave_other (eqb y x) x y d ys (without_date x ys) refl n (without_other x d ys n)

leave_gone : (t : Bool) (low high x y : ℕ) (ys less : List ℕ) → eqb y x ≡ t → ascending low high (y ∷ ys) ≡ true → member x less ≡ false → member x (leave_by t y ys less) ≡ false
unfolding leave_by
leave_gone true low high x y ys less e h m =
    let q : y ≡ x = eqb-true y x e in
    member_above (y + 1) high x ys (asc_rest low high y ys h) (omega arith)
leave_gone false low high x y ys less e h m = member_skip x y less (eqb-false y x e) ∙ m

pub without_gone : (low high x : ℕ) (xs : List ℕ) → ascending low high xs ≡ true → member x (without_date x xs) ≡ false
unfolding without_date member
without_gone low high x [] h = refl
without_gone low high x (y ∷ ys) h = leave_gone (eqb y x) low high x y ys (without_date x ys) refl h (without_gone (y + 1) high x ys (asc_rest low high y ys h))

-- what was put in and left out again
back_by : (t : Bool) (x y : ℕ) (ys : List ℕ) → (y ≡ x → ⊥) → without_date x (with_date x ys) ≡ ys → without_date x (put_by t x y ys (with_date x ys)) ≡ y ∷ ys
unfolding put_by without_date leave_by
back_by true x y ys n h = rw (eq-eqb x x refl)
back_by false x y ys n h = rw (ne_eqb y x n) (ap (λ (r : List ℕ). y ∷ r) h)

pub put_and_left : (x : ℕ) (xs : List ℕ) → member x xs ≡ false → without_date x (with_date x xs) ≡ xs
unfolding with_date without_date leave_by
put_and_left x [] m = rw (eq-eqb x x refl)
put_and_left x (y ∷ ys) m =
    let n = not_first x y ys m in
    back_by (ltb x y) x y ys n.0 (put_and_left x ys n.1)

-- ---- the calendar keeps its rule
calendar_mask : (mask : ℕ) (a b : List ℕ) → calendar_ok mask a ≡ true → closed_ok b ≡ true → calendar_ok mask b ≡ true
unfolding calendar_ok
calendar_mask mask a b h e = rw (both (not (eqb (mask % 128) 127)) (closed_ok a) h).0 e

calendar_list : (mask : ℕ) (closed : List ℕ) → calendar_ok mask closed ≡ true → (length closed ≤ 4096) × (ascending SPAN_FIRST SPAN_LAST closed ≡ true)
unfolding calendar_ok closed_ok
calendar_list mask closed h =
    let b = both (leb (length closed) 4096) _ (both (not (eqb (mask % 128) 127)) _ h).1 in
    (leb-true (length closed) 4096 b.0, b.1)

list_ok : (closed : List ℕ) → length closed ≤ 4096 → ascending SPAN_FIRST SPAN_LAST closed ≡ true → closed_ok closed ≡ true
unfolding closed_ok
list_ok closed h e = rw (le-leb (length closed) 4096 h) e

module _ (mask : ℕ) (closed : List ℕ) (x : ℕ) (ok : calendar_ok mask closed ≡ true) where
  pub with_keeps : SPAN_FIRST ≤ x → x ≤ SPAN_LAST → member x closed ≡ false → length closed < 4096 → calendar_ok mask (with_date x closed) ≡ true
  with_keeps a b m h =
      calendar_mask mask closed (with_date x closed) ok
      (list_ok (with_date x closed) (omega (arith, with_length x closed)) (with_ascends SPAN_FIRST SPAN_LAST x closed a b m (calendar_list mask closed ok).1))

  pub without_keeps : calendar_ok mask (without_date x closed) ≡ true
  without_keeps =
      calendar_mask mask closed (without_date x closed) ok
      (list_ok (without_date x closed) (omega (arith, without_length x closed, (calendar_list mask closed ok).0)) (without_ascends SPAN_FIRST SPAN_LAST x closed (calendar_list mask closed ok).1))

  pub without_date_lem : member x (without_date x closed) ≡ false
  without_date_lem = without_gone SPAN_FIRST SPAN_LAST x closed (calendar_list mask closed ok).1

-- ---- one open day more: the counts of the years that begin after it have one more
only : ℕ → ℕ → Bool
only x d = eqb d x

single : (x from n : ℕ) → from ≤ x → x < from + n → tally (only x) from n ≡ 1
unfolding only
single x from n h l =
    let e : from + n - from ≡ n = omega arith in
    let a : tally (only x) from (x - from) ≡ 0 = tally_none (only x) from (x - from) (λ d p q. ne_eqb d x (λ r. omega arith)) in
    let b : tally (only x) from (x + 1 - from) ≡ tally (only x) from (x - from) + 1 = tally_last (only x) from x h ∙ ap (λ (t : Bool). tally (only x) from (x - from) + pick_n t 1 0) (eq-eqb x x refl) in
    let c : tally (only x) (x + 1) (from + n - (x + 1)) ≡ 0 = tally_none (only x) (x + 1) (from + n - (x + 1)) (λ d p q. ne_eqb d x (λ r. omega arith)) in
    ap (tally (only x) from) (sym e) ∙ tally_to (only x) from (x + 1) (from + n) (omega arith) (omega arith) ∙ omega arith

nowhere : (x from n : ℕ) → from + n ≤ x → tally (only x) from n ≡ 0
unfolding only
nowhere x from n h = tally_none (only x) from n (λ d p q. ne_eqb d x (λ r. omega arith))

module _ (mask : ℕ) (more less : List ℕ) (x : ℕ) (from : SPAN_FIRST ≤ x) (differ : (d : ℕ) → pick_n (is_open_day mask more d) 1 0 ≡ pick_n (is_open_day mask less d) 1 0 + pick_n (eqb d x) 1 0) where
  counts_differ : (i : ℕ) → count_at mask more i ≡ count_at mask less i + tally (only x) SPAN_FIRST (year_start i - SPAN_FIRST)
  unfolding count_at open_between only
  counts_differ i = tally_sum (is_open_day mask more) (is_open_day mask less) (only x) SPAN_FIRST (year_start i - SPAN_FIRST) (λ d h. differ d)

  pub one_more : (i : ℕ) → x < year_start i → count_at mask more i ≡ count_at mask less i + 1
  one_more i h = omega (arith, counts_differ i, single x SPAN_FIRST (year_start i - SPAN_FIRST) from (omega arith))

  pub as_many : (i : ℕ) → year_start i ≤ x → count_at mask more i ≡ count_at mask less i
  as_many i h = omega (arith, counts_differ i, start_from i, nowhere x SPAN_FIRST (year_start i - SPAN_FIRST) (omega (arith, start_from i)))

  -- ---- the index with a day less, and with a day more
  module _ (to : x ≤ SPAN_LAST) where
    fits : (closed : List ℕ) → place_of x + 1 ≤ length (index_of mask closed)
    fits closed = omega (arith, index_length mask closed, place_to x from to)

    down_at : (t : Bool) (i : ℕ) → ltb i (place_of x + 1) ≡ t → i < PLACES → get_or (onwards false (place_of x + 1) (index_of mask more)) i 0 ≡ get_or (index_of mask less) i 0
    unfolding stepped
    down_at true i e h =
        let l : i < place_of x + 1 = ltb-true i (place_of x + 1) e in
        onwards_before false (place_of x + 1) (index_of mask more) (fits more) i l
        ∙ index_at mask more i h
        ∙ as_many i (no_later_place x from i (omega arith))
        ∙ sym (index_at mask less i h)
    down_at false i e h =
        let l : place_of x + 1 ≤ i = ltb-false i (place_of x + 1) e in
        onwards_from false (place_of x + 1) (index_of mask more) (fits more) i l (omega (arith, index_length mask more))
        ∙ omega (arith, index_at mask more i h, index_at mask less i h, one_more i (later_place x from i l))

    pub index_down : onwards false (place_of x + 1) (index_of mask more) ≡ index_of mask less
    index_down =
        let n : length (onwards false (place_of x + 1) (index_of mask more)) ≡ PLACES = onwards_length false (place_of x + 1) (index_of mask more) (fits more) ∙ index_length mask more in
        ext_get_or 0 (onwards false (place_of x + 1) (index_of mask more)) (index_of mask less) (n ∙ sym (index_length mask less))
        (λ i h. down_at (ltb i (place_of x + 1)) i refl (omega arith))

    raised : (c d : ℕ) → d ≡ c + 1 → d ≤ MOST → stepped true c ≡ d
    unfolding stepped
    raised c d e h = rw (lt-ltb c MOST (omega arith)) (sym e)

    up_at : (t : Bool) (i : ℕ) → ltb i (place_of x + 1) ≡ t → i < PLACES → get_or (onwards true (place_of x + 1) (index_of mask less)) i 0 ≡ get_or (index_of mask more) i 0
    up_at true i e h =
        let l : i < place_of x + 1 = ltb-true i (place_of x + 1) e in
        onwards_before true (place_of x + 1) (index_of mask less) (fits less) i l
        ∙ index_at mask less i h
        ∙ sym (as_many i (no_later_place x from i (omega arith)))
        ∙ sym (index_at mask more i h)
    up_at false i e h =
        let l : place_of x + 1 ≤ i = ltb-false i (place_of x + 1) e in
        onwards_from true (place_of x + 1) (index_of mask less) (fits less) i l (omega (arith, index_length mask less))
        ∙ ap (stepped true) (index_at mask less i h)
        ∙ raised (count_at mask less i) (count_at mask more i) (one_more i (later_place x from i l)) (count_at_few mask more i (omega arith))
        ∙ sym (index_at mask more i h)

    pub index_up : onwards true (place_of x + 1) (index_of mask less) ≡ index_of mask more
    index_up =
        let n : length (onwards true (place_of x + 1) (index_of mask less)) ≡ PLACES = onwards_length true (place_of x + 1) (index_of mask less) (fits less) ∙ index_length mask less in
        ext_get_or 0 (onwards true (place_of x + 1) (index_of mask less)) (index_of mask more) (n ∙ sym (index_length mask more))
        (λ i h. up_at (ltb i (place_of x + 1)) i refl (omega arith))

same_counts : (mask : ℕ) (a b : List ℕ) (i : ℕ) → ((d : ℕ) → is_open_day mask a d ≡ is_open_day mask b d) → count_at mask a i ≡ count_at mask b i
unfolding count_at open_between
same_counts mask a b i h = tally_same (is_open_day mask a) (is_open_day mask b) SPAN_FIRST (year_start i - SPAN_FIRST) (λ d p q. h d)

-- ---- so for a date put in, and for one left out
pub open_parts : (mask : ℕ) (closed : List ℕ) (x : ℕ) → is_open_day mask closed x ≡ true → (weekly_closed mask x ≡ false) × (member x closed ≡ false)
unfolding is_open_day
open_parts mask closed x h =
    let b = both (not (weekly_closed mask x)) (not (member x closed)) h in
    (not-true (weekly_closed mask x) b.0, not-true (member x closed) b.1)

module _ (mask : ℕ) (closed : List ℕ) (x : ℕ) where
  with_by : (t : Bool) (d : ℕ) → eqb x d ≡ t → is_open_day mask closed x ≡ true → pick_n (is_open_day mask closed d) 1 0 ≡ pick_n (is_open_day mask (with_date x closed) d) 1 0 + pick_n (eqb d x) 1 0
  unfolding is_open_day
  with_by true d e o =
      let q : x ≡ d = eqb-true x d e in
      let p = open_parts mask closed x o in
      rw (with_member x d closed, e, eq-eqb d x (sym q), ← q, p.0, p.1) refl
  with_by false d e o =
      let q : x ≡ d → ⊥ = eqb-false x d e in
      rw (with_member x d closed, e, ne_eqb d x (λ p. q (sym p))) (omega arith)

  pub with_differs : is_open_day mask closed x ≡ true → (d : ℕ) → pick_n (is_open_day mask closed d) 1 0 ≡ pick_n (is_open_day mask (with_date x closed) d) 1 0 + pick_n (eqb d x) 1 0
  with_differs o d = with_by (eqb x d) d refl o

  without_by : (t : Bool) (d : ℕ) → eqb x d ≡ t → calendar_ok mask closed ≡ true → weekly_closed mask x ≡ false → member x closed ≡ true → pick_n (is_open_day mask (without_date x closed) d) 1 0 ≡ pick_n (is_open_day mask closed d) 1 0 + pick_n (eqb d x) 1 0
  unfolding is_open_day
  without_by true d e ok w m =
      let q : x ≡ d = eqb-true x d e in
      rw (eq-eqb d x (sym q), ← q, w, m, without_date_lem mask closed x ok) refl
  without_by false d e ok w m =
      let q : x ≡ d → ⊥ = eqb-false x d e in
      rw (without_other x d closed q, ne_eqb d x (λ p. q (sym p))) (omega arith)

  pub without_differs : calendar_ok mask closed ≡ true → weekly_closed mask x ≡ false → member x closed ≡ true → (d : ℕ) → pick_n (is_open_day mask (without_date x closed) d) 1 0 ≡ pick_n (is_open_day mask closed d) 1 0 + pick_n (eqb d x) 1 0
  without_differs ok w m d = without_by (eqb x d) d refl ok w m

  weekly_by : (t : Bool) (d : ℕ) → eqb x d ≡ t → weekly_closed mask x ≡ true → is_open_day mask (without_date x closed) d ≡ is_open_day mask closed d
  unfolding is_open_day
  weekly_by true d e w = let q : x ≡ d = eqb-true x d e in rw (← q, w) refl
  weekly_by false d e w = rw (without_other x d closed (eqb-false x d e)) refl

  -- a date that is weekly closed, too, changes nothing
  pub weekly_stays : weekly_closed mask x ≡ true → index_of mask (without_date x closed) ≡ index_of mask closed
  weekly_stays w =
      ext_get_or 0 (index_of mask (without_date x closed)) (index_of mask closed) (index_length mask (without_date x closed) ∙ sym (index_length mask closed))
      (λ i h. index_at mask (without_date x closed) i (omega (arith, index_length mask (without_date x closed))) ∙ same_count i ∙ sym (index_at mask closed i (omega (arith, index_length mask (without_date x closed)))))
    where
      same_count : (i : ℕ) → count_at mask (without_date x closed) i ≡ count_at mask closed i
      same_count i = same_counts mask (without_date x closed) closed i (λ d. weekly_by (eqb x d) d refl w)
