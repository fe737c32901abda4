-- Closed dates of a stretch: passing the list from the first place of the stretch on counts the days that are listed and not weekly closed.
-- Assumes nothing.
use Prim.Native.Nat.{ℕ, zero, suc, ◌+◌, ◌≤◌, ◌<◌}
use Rattle.std.specs.Prelude.{◌≡◌, Bool, not, ◌&&◌, ◌||◌, eqb, ltb, leb, length, drop, get_or}
use Rattle.std.proofs.Math.Path.{refl, sym, ap}
use Rattle.std.proofs.Common.{◌∙◌, drop_of_length-le, drop-cons}
use Rattle.std.proofs.Math.Bool.{true, false}
use mathlib.Core.List.{List, [], ◌∷◌}
use native.Mathlib.Omega.{arith}
use borrow.Author.Tests.{eq-eqb, ne_eqb, eqb-true, eqb-false, lt-ltb, le-ltb, ltb-true, ltb-false, le-leb, leb-true}
use Rattle.refusal.specs.Laws.Answers.{both}
use Rattle.date.specs.Civil.{pick_n}
use Rattle.date.specs.Date.{SPAN_FIRST, SPAN_LAST}
use Rattle.calendar.specs.Open.{weekly_closed, member, is_open_day, ascending, closed_ok}
use Rattle.calendar.specs.Inner.Places.{LowerBound}
use Rattle.opendays.specs.Count.{tally, weekly_open}
use Rattle.opendays.specs.Inner.Steps.{counted_by, listed_before, unless_before, listed_from, Rest}
use Rattle.opendays.specs.Laws.Tally.{tally_sum}

-- a day that is listed and not weekly closed
unfoldable pub listed_only : ℕ → List ℕ → ℕ → Bool
listed_only mask closed day = weekly_open mask day && member day closed

-- ---- the days that are not weekly closed are the open ones and those
by_day : (w m : Bool) → pick_n (not w) 1 0 ≡ pick_n (not w && not m) 1 0 + pick_n (not w && m) 1 0
by_day true m = refl
by_day false true = refl
by_day false false = refl

pub weekly_is : (mask : ℕ) (closed : List ℕ) (day n : ℕ) → tally (weekly_open mask) day n ≡ tally (is_open_day mask closed) day n + tally (listed_only mask closed) day n
unfolding is_open_day listed_only weekly_open
weekly_is mask closed day n = tally_sum (weekly_open mask) (is_open_day mask closed) (listed_only mask closed) day n (λ d l. by_day (weekly_closed mask d) (member d closed))

-- ---- what is left of a closed list
pub asc_first : (low high x : ℕ) (xs : List ℕ) → ascending low high (x ∷ xs) ≡ true → low ≤ x
unfolding ascending
asc_first low high x xs e = leb-true low x (both (leb low x) _ e).0

pub asc_rest : (low high x : ℕ) (xs : List ℕ) → ascending low high (x ∷ xs) ≡ true → ascending (x + 1) high xs ≡ true
unfolding ascending
asc_rest low high x xs e = (both (leb x high) _ (both (leb low x) _ e).1).1

pub asc_raise : (low low' high x : ℕ) (xs : List ℕ) → low' ≤ x → ascending low high (x ∷ xs) ≡ true → ascending low' high (x ∷ xs) ≡ true
unfolding ascending
asc_raise low low' high x xs h e = rw (le-leb low' x h) (both (leb low x) _ e).1

pub member_skip : (d x : ℕ) (xs : List ℕ) → (x ≡ d → ⊥) → member d (x ∷ xs) ≡ member d xs
unfolding member
member_skip d x xs h = rw (ne_eqb x d h)

member_first : (d x : ℕ) (xs : List ℕ) → x ≡ d → member d (x ∷ xs) ≡ true
unfolding member
member_first d x xs h = rw (eq-eqb x d h)

pub member_above : (low high d : ℕ) (xs : List ℕ) → ascending low high xs ≡ true → d < low → member d xs ≡ false
unfolding member
member_above low high d [] e h = refl
member_above low high d (x ∷ xs) e h =
    let l = asc_first low high x xs e in
    rw (ne_eqb x d (λ p. omega arith)) (member_above (x + 1) high d xs (asc_rest low high x xs e) (omega arith))

module _ {closed : List ℕ} where
  pub rest_start : closed_ok closed ≡ true → Rest closed closed SPAN_FIRST
  unfolding closed_ok
  rest_start ok = record { sorted = (both (leb (length closed) 4096) _ ok).1; same = λ d h. refl }

  rest_empty : (from to : ℕ) → from ≤ to → Rest closed [] from → Rest closed [] to
  unfolding ascending
  rest_empty from to h r = record { sorted = refl; same = λ d l. r.same d (omega arith) }

  -- past the first date
  rest_past : (from to x : ℕ) (xs : List ℕ) → x < to → to ≤ x + 1 → Rest closed (x ∷ xs) from → Rest closed xs to
  rest_past from to x xs h i r =
      let e : x + 1 ≡ to = omega arith in
      let l = asc_first from SPAN_LAST x xs r.sorted in
      record {
        sorted = rw e at (asc_rest from SPAN_LAST x xs r.sorted);
        same = λ d g. r.same d (omega arith) ∙ member_skip d x xs (λ p. omega arith);
      }

  -- up to the first date
  rest_up : (from to x : ℕ) (xs : List ℕ) → from ≤ to → to ≤ x → Rest closed (x ∷ xs) from → Rest closed (x ∷ xs) to
  rest_up from to x xs h i r = record { sorted = asc_raise from to SPAN_LAST x xs i r.sorted; same = λ d g. r.same d (omega arith) }

  rest_on_by : (b : Bool) (from to x : ℕ) (xs : List ℕ) → ltb x to ≡ b → ((f : ℕ) → f ≤ to → Rest closed xs f → Rest closed (listed_from to xs) to) → from ≤ to → Rest closed (x ∷ xs) from → Rest closed (unless_before b x xs (listed_from to xs)) to
  unfolding unless_before
  rest_on_by true from to x xs e more h r =
      let l = asc_first from SPAN_LAST x xs r.sorted in
      more (x + 1) (omega (arith, ltb-true x to e)) (rest_past from (x + 1) x xs (omega arith) (omega arith) r)
  rest_on_by false from to x xs e more h r = rest_up from to x xs h (ltb-false x to e) r

  pub rest_on : (from to : ℕ) (xs : List ℕ) → from ≤ to → Rest closed xs from → Rest closed (listed_from to xs) to
  unfolding listed_from
  rest_on from to [] h r = rest_empty from to h r
  rest_on from to (x ∷ xs) h r = rest_on_by (ltb x to) from to x xs refl (λ f. rest_on f to xs) h r

-- ---- a lower bound is the place where the dates from a day on begin
begins : (x : ℕ) (xs : List ℕ) (at : ℕ) → at ≤ length xs → ((k : ℕ) → k < at → get_or xs k 0 < x) → ((k : ℕ) → at ≤ k → k < length xs → x ≤ get_or xs k 0) → drop at xs ≡ listed_from x xs
unfolding listed_from unless_before
begins x [] zero w b f = refl
begins x [] (suc at) w b f = refl
begins x (y ∷ ys) zero w b f = rw (le-ltb y x (f 0 (omega arith) (omega arith)))
begins x (y ∷ ys) (suc at) w b f =
    rw (lt-ltb y x (b 0 (omega arith)))
    (begins x ys at (omega arith) (λ k h. b (suc k) (omega arith)) (λ k h i. f (suc k) (omega arith) (omega arith)))

pub bound_begins : {closed : List ℕ} {x at : ℕ} → closed_ok closed ≡ true → LowerBound closed x at → drop at closed ≡ listed_from x closed
bound_begins {closed} {x} {at} ok b = begins x closed at b.within (b.below ok).before (b.from ok)

pub rest_bound : {closed : List ℕ} {x at : ℕ} → closed_ok closed ≡ true → SPAN_FIRST ≤ x → LowerBound closed x at → Rest closed (drop at closed) x
rest_bound {closed} {x} {at} ok h b = rw (bound_begins ok b) (rest_on SPAN_FIRST x closed h (rest_start ok))

-- ---- a day is listed exactly if its date stands at its place
asc_low : (low high : ℕ) (xs : List ℕ) → ascending low high xs ≡ true → ascending 0 high xs ≡ true
unfolding ascending
asc_low low high [] e = refl
asc_low low high (x ∷ xs) e = asc_raise low 0 high x xs (omega arith) e

asc_drop : (k low high : ℕ) (xs : List ℕ) → ascending low high xs ≡ true → ascending 0 high (drop k xs) ≡ true
asc_drop zero low high xs e = asc_low low high xs e
asc_drop (suc k) low high [] e = asc_low low high [] e
asc_drop (suc k) low high (x ∷ xs) e = asc_drop k (x + 1) high xs (asc_rest low high x xs e)

first_is : (from high x : ℕ) (xs : List ℕ) → ascending from high (x ∷ xs) ≡ true → member from (x ∷ xs) ≡ eqb x from
unfolding member
first_is from high x xs e =
    let l = asc_first from high x xs e in
    rw (member_above (x + 1) high from xs (asc_rest from high x xs e) (omega arith)) (or_none_lem (eqb x from))
  where
    or_none_lem : (b : Bool) → (b || false) ≡ b
    or_none_lem true = refl
    or_none_lem false = refl

module _ (closed : List ℕ) (x at : ℕ) (ok : closed_ok closed ≡ true) (b : LowerBound closed x at) where
  -- dates before the place are not the day
  skip : (xs : List ℕ) (k : ℕ) → ((j : ℕ) → j < k → get_or xs j 0 < x) → k ≤ length xs → member x xs ≡ member x (drop k xs)
  unfolding member
  skip [] zero f h = refl
  skip [] (suc k) f h = refl
  skip (y ∷ ys) zero f h = refl
  skip (y ∷ ys) (suc k) f h =
      rw (ne_eqb y x (λ p. omega (arith, f 0 (omega arith)))) (skip ys k (λ j l. f (suc j) (omega arith)) (omega arith))

  from_there : (xs : List ℕ) (low : ℕ) → drop at closed ≡ xs → ascending low SPAN_LAST xs ≡ true → at < length closed → member x xs ≡ eqb (get_or closed at 0) x
  from_there xs low e a h =
      let d : xs ≡ get_or closed at 0 ∷ drop (suc at) closed = sym e ∙ drop-cons closed at 0 h in
      rw d (first_is x SPAN_LAST (get_or closed at 0) (drop (suc at) closed) (asc_raise low x SPAN_LAST (get_or closed at 0) (drop (suc at) closed) (b.from ok at (omega arith) h) (rw d at a)))

  pub listed_at : at < length closed → eqb (get_or closed at 0) x ≡ member x closed
  unfolding closed_ok
  listed_at h =
      let s : ascending SPAN_FIRST SPAN_LAST closed ≡ true = (both (leb (length closed) 4096) _ ok).1 in
      sym (skip closed at (b.below ok).before b.within ∙ from_there (drop at closed) 0 refl (asc_drop at SPAN_FIRST SPAN_LAST closed s) h)

  pub unlisted_at : length closed ≤ at → member x closed ≡ false
  unfolding member
  unlisted_at h = skip closed at (b.below ok).before b.within ∙ ap (member x) (drop_of_length-le closed h)

-- ---- the dates of a stretch are its listed days
module _ (mask : ℕ) (closed : List ℕ) where
  unlisted : (from n : ℕ) → member from closed ≡ false → tally (listed_only mask closed) from (suc n) ≡ tally (listed_only mask closed) (from + 1) n
  unfolding tally listed_only
  unlisted from n e = rw e (never (weekly_open mask from) _)
    where
      never : (w : Bool) (m : ℕ) → pick_n (w && false) 1 0 + m ≡ m
      never true m = omega arith
      never false m = omega arith

  listed_here : (from n : ℕ) → member from closed ≡ true → tally (listed_only mask closed) from (suc n) ≡ counted_by true (weekly_closed mask from) (tally (listed_only mask closed) (from + 1) n)
  unfolding tally listed_only weekly_open counted_by
  listed_here from n e = rw e (by (weekly_closed mask from) _)
    where
      by : (w : Bool) (m : ℕ) → pick_n (not w && true) 1 0 + m ≡ counted_by true w m
      by true m = omega arith
      by false m = refl

  pub no_dates : (to x : ℕ) (xs : List ℕ) → to ≤ x → listed_before mask to (x ∷ xs) ≡ 0
  unfolding listed_before counted_by
  no_dates to x xs h = rw (le-ltb x to h)

  pub none_before : (from to : ℕ) (xs : List ℕ) → to ≤ from → ascending from SPAN_LAST xs ≡ true → listed_before mask to xs ≡ 0
  unfolding listed_before
  none_before from to [] h e = refl
  none_before from to (x ∷ xs) h e = let l = asc_first from SPAN_LAST x xs e in no_dates to x xs (omega arith)

  listed_by : (t : Bool) (n from x : ℕ) (xs : List ℕ) → eqb x from ≡ t → ((ys : List ℕ) → Rest closed ys (from + 1) → listed_before mask (from + 1 + n) ys ≡ tally (listed_only mask closed) (from + 1) n) → Rest closed (x ∷ xs) from → listed_before mask (from + suc n) (x ∷ xs) ≡ tally (listed_only mask closed) from (suc n)
  unfolding listed_before
  listed_by true n from x xs e more r =
      let q : x ≡ from = eqb-true x from e in
      let s : from + suc n ≡ from + 1 + n = omega arith in
      let i = more xs (rest_past from (from + 1) x xs (omega arith) (omega arith) r) in
      rw (lt-ltb x (from + suc n) (omega arith), q)
      (ap (λ (m : ℕ). counted_by true (weekly_closed mask from) m) (ap (λ (k : ℕ). listed_before mask k xs) s ∙ i) ∙ sym (listed_here from n (r.same from (omega arith) ∙ member_first from x xs q)))
  listed_by false n from x xs e more r =
      let q : x ≡ from → ⊥ = eqb-false x from e in
      let l = asc_first from SPAN_LAST x xs r.sorted in
      let s : from + suc n ≡ from + 1 + n = omega arith in
      let m : from + 1 ≤ x = omega arith in
      let i = more (x ∷ xs) (rest_up from (from + 1) x xs (omega arith) m r) in
      let a : member from closed ≡ false = r.same from (omega arith) ∙ member_skip from x xs q ∙ member_above (x + 1) SPAN_LAST from xs (asc_rest from SPAN_LAST x xs r.sorted) (omega arith) in
      ap (λ (k : ℕ). listed_before mask k (x ∷ xs)) s ∙ i ∙ sym (unlisted from n a)

  pub listed_days : (n from : ℕ) (xs : List ℕ) → Rest closed xs from → listed_before mask (from + n) xs ≡ tally (listed_only mask closed) from n
  unfolding tally listed_before member
  listed_days zero from xs r = none_before from (from + 0) xs (omega arith) r.sorted
  listed_days (suc n) from [] r =
      let i = listed_days n (from + 1) [] (rest_empty from (from + 1) (omega arith) r) in
      i ∙ sym (unlisted from n (r.same from (omega arith)))
  listed_days (suc n) from (x ∷ xs) r = listed_by (eqb x from) n from x xs refl (listed_days n (from + 1)) r
