-- Request L8: no date of a schedule moved by more than 30 days.
-- Assumes nothing.
use Prim.Native.Nat.{ℕ, zero, suc, ◌+◌, ◌-◌, ◌≤◌}
use Rattle.std.proofs.Math.Path.{◌≡◌, refl, sym, subst}
use Rattle.std.proofs.Common.{ap, ◌∙◌, leb-true}
use Rattle.std.specs.Prelude.{Bool, leb, length, take, drop}
use Rattle.std.proofs.Math.Bool.{true, false}
use Rattle.std.proofs.lemmas.Bool.{false≢true}
use mathlib.Core.List.{List, [], ◌∷◌, ◌++◌}
use native.Mathlib.Omega.{arith}
use Rattle.refusal.specs.Answer.{Answer, given, refused, then, BOOK}
use Rattle.refusal.specs.Laws.Answers.{need_given, one_given, then_stepped}
use Rattle.date.specs.Civil.{leap, row_of, month_length, gone, sum_to, guess, years_gone, month_in, day_in, place_of, fields_at, fields_of, day_number}
use Rattle.date.specs.Date.{make_of, last_of_month}
use Rattle.date.specs.Laws.Months.{length_le}
use Rattle.date.specs.Laws.Round.{fields_valid, day_of_fields}
use Rattle.calendar.specs.declared.Convention.{Convention}
use Rattle.calendar.specs.declared.Convention.TheVariants.{Unadjusted, Following, ModifiedFollowing, Preceding, ModifiedPreceding}
use Rattle.calendar.specs.AnyCalendar as any
use Rattle.calendar.specs.Open.{is_open_day}
use Rattle.calendar.specs.Adjust.{adjusted, last_open}
use Rattle.calendar.specs.Laws.Conventions.{within_given}
use Rattle.calendar.specs.Laws.Stays.{open_stays}
use Rattle.calendar.specs.Laws.HowFar.{searches, near, searched_open, unadjusted_same, preceding_back}
use Rattle.steps.specs.declared.Request.{Request}
use Rattle.steps.specs.Rules.{rule_in_force, is_old_cds, is_credit}
use Rattle.steps.specs.Finish.{moved, each, on_first, on_last, on_middle, wednesdays, unless, first_move, last_move, month_end_move, middle_move, seed_at_end, adjustments, meet_at_end, meet_at_front}
use Rattle.steps.specs.Entries.{Entries, Pairs, without_former, without_second, left_beside, pairs_of, apart, farthest, moved_of, entries_of}
use Rattle.steps.specs.Laws.Parts.{on_first_lem, on_last_lem, on_middle_lem, on_no_middle, each_moved}
use Rattle.steps.specs.Laws.Entries.{former_length, from_pairs}
use Rattle.steps.specs.Laws.Farthest.{none_beside}
use Rattle.outcomes.specs.Laws.Days.{days_apart}

-- ---- what the merges leave of two lists is no farther apart
module _ (n : ℕ) where
  side_append : (ps qs gs hs : List ℕ) → length ps ≡ length gs → farthest ps gs ≤ n → farthest qs hs ≤ n → farthest (ps ++ qs) (gs ++ hs) ≤ n
  unfolding farthest
  side_append [] qs [] hs e h k = k
  side_append [] qs (g ∷ gs) hs e h k = let bad : ⊥ = omega arith in absurd bad
  side_append (p ∷ ps) qs [] hs e h k = let bad : ⊥ = omega arith in absurd bad
  side_append (p ∷ ps) qs (g ∷ gs) hs e h k =
      let l = side_append ps qs gs hs (omega arith) (omega arith) k in
      omega arith

  side_take : (k : ℕ) (ps gs : List ℕ) → farthest ps gs ≤ n → farthest (take k ps) (take k gs) ≤ n
  unfolding farthest
  side_take zero ps gs h = omega arith
  side_take (suc k) [] gs h = omega arith
  side_take (suc k) (p ∷ ps) [] h = omega arith
  side_take (suc k) (p ∷ ps) (g ∷ gs) h = let l = side_take k ps gs (omega arith) in omega arith

  side_drop : (k : ℕ) (ps gs : List ℕ) → farthest ps gs ≤ n → farthest (drop k ps) (drop k gs) ≤ n
  unfolding farthest
  side_drop zero ps gs h = h
  side_drop (suc k) [] gs h = omega arith
  side_drop (suc k) (p ∷ ps) [] h = rw (none_beside (drop k ps)) (omega arith)
  side_drop (suc k) (p ∷ ps) (g ∷ gs) h = side_drop k ps gs (omega arith)

  side_two : (a b : ℕ) (ps gs : List ℕ) → length ps ≡ length gs → farthest ps gs ≤ n → farthest (take a ps ++ drop b ps) (take a gs ++ drop b gs) ≤ n
  side_two a b ps gs e h =
      side_append (take a ps) (drop b ps) (take a gs) (drop b gs) (as_many a ps gs e) (side_take a ps gs h) (side_drop b ps gs h)
    where
      as_many : (k : ℕ) (xs ys : List ℕ) → length xs ≡ length ys → length (take k xs) ≡ length (take k ys)
      as_many zero xs ys q = refl
      as_many (suc k) [] [] q = refl
      as_many (suc k) [] (y ∷ ys) q = let bad : ⊥ = omega arith in absurd bad
      as_many (suc k) (x ∷ xs) [] q = let bad : ⊥ = omega arith in absurd bad
      as_many (suc k) (x ∷ xs) (y ∷ ys) q = ap suc (as_many k xs ys (omega arith))

  side_former : (b : Bool) (ps gs : List ℕ) → length ps ≡ length gs → farthest ps gs ≤ n → farthest (without_former b ps) (without_former b gs) ≤ n
  unfolding without_former
  side_former false ps gs e h = h
  side_former true ps gs e h = rw (← e) (side_two (length ps - 2) (length ps - 1) ps gs e h)

  side_second : (b : Bool) (ps gs : List ℕ) → length ps ≡ length gs → farthest ps gs ≤ n → farthest (without_second b ps) (without_second b gs) ≤ n
  unfolding without_second
  side_second false ps gs e h = h
  side_second true ps gs e h = side_two 1 2 ps gs e h

  side_left : (paid ps gs : List ℕ) → length ps ≡ length gs → farthest ps gs ≤ n → farthest (left_beside paid ps) (left_beside paid gs) ≤ n
  unfolding left_beside
  side_left paid ps gs e h =
      side_second (meet_at_front (without_former (meet_at_end paid) paid)) _ _ (former_length (meet_at_end paid) ps gs e) (side_former (meet_at_end paid) ps gs e h)

-- ---- a date that was moved lies at most 30 days off
abbrev Near : (day new : ℕ) → Type 0
Near day new = (new ≤ day + 30) × (day ≤ new + 30)

near_apart : (day new : ℕ) → Near day new → apart new day ≤ 30
unfolding apart
near_apart day new h = omega (arith, h.0, h.1)

-- the month's last day lies no earlier, and at most 30 days later
first_year_lem : (fields_of 0).year ≡ 1
unfolding leap row_of month_length gone sum_to guess years_gone month_in day_in place_of fields_at
first_year_lem = refl

-- the empty date has no month
some_day : (day new : ℕ) → last_of_month day ≡ given new → 1 ≤ day
unfolding last_of_month make_of
some_day zero new h =
    let y = leb-true 1800 (fields_of 0).year (need_given BOOK (leb 1800 (fields_of 0).year) _ new h).0 in
    let bad : ⊥ = omega (arith, y, first_year_lem) in
    absurd bad
some_day (suc day) new h = omega arith

last_later : (day new : ℕ) → last_of_month day ≡ given new → (day ≤ new) × (new ≤ day + 30)
unfolding last_of_month make_of
last_later day new h =
    let one = some_day day new h in
    let a = (need_given BOOK (leb 1800 (fields_of day).year) _ new h).1 in
    let b = (need_given BOOK (leb (fields_of day).year 2399) _ new a).1 in
    let c = (need_given BOOK (leb 1 (fields_of day).month) _ new b).1 in
    let d = (need_given BOOK (leb (fields_of day).month 12) _ new c).1 in
    let e = (need_given BOOK (leb 1 (month_length (fields_of day).year (fields_of day).month)) _ new d).1 in
    let f = (need_given BOOK (leb (month_length (fields_of day).year (fields_of day).month) (month_length (fields_of day).year (fields_of day).month)) _ new e).1 in
    let is : day_number (fields_of day).year (fields_of day).month (month_length (fields_of day).year (fields_of day).month) ≡ new = one_given (given new) _ new (sym f) refl in
    let far = days_apart (fields_of day).year (fields_of day).month (month_length (fields_of day).year (fields_of day).month) (fields_of day).day in
    let v = fields_valid day in
    let own = day_of_fields day one in
    let most = length_le (fields_of day).year (fields_of day).month in
    (omega (arith, is, far, own, v.first, v.last, most), omega (arith, is, far, own, v.first, v.last, most))

module _ (mask : ℕ) (closed : List ℕ) where
  unless_near_lem : (b : Bool) (convention : Convention) (day new : ℕ) → moved mask closed (unless b convention) day ≡ given new → Near day new
  unfolding moved unless
  unless_near_lem true convention day new h = let e : day ≡ new = one_given (given new) day new (sym h) refl in (omega arith, omega arith)
  unless_near_lem false convention day new h = near (is_open_day mask closed) convention day new h

  month_end_near : (convention : Convention) (day new : ℕ) → moved mask closed (month_end_move convention) day ≡ given new → Near day new
  unfolding moved month_end_move any.last_open
  month_end_near convention day new h = by convention h
    where
      opened : last_open mask closed day ≡ given new → Near day new
      opened k =
          let s = then_stepped (last_of_month day) _ new k in
          let l = last_later day s.value s.from in
          let p = preceding_back (is_open_day mask closed) s.value new s.to in
          (omega (arith, l.0, l.1, p.0, p.1), omega (arith, l.0, l.1, p.0, p.1))

      by : (c : Convention) → moved mask closed (month_end_move c) day ≡ given new → Near day new
      by Unadjusted k = let l = last_later day new k in (l.1, omega (arith, l.0))
      by Following k = opened k
      by ModifiedFollowing k = opened k
      by Preceding k = opened k
      by ModifiedPreceding k = opened k

  middle_near : (end : Bool) (convention : Convention) (day new : ℕ) → moved mask closed (middle_move end convention) day ≡ given new → Near day new
  unfolding middle_move unless
  middle_near true convention day new h = month_end_near convention day new h
  middle_near false convention day new h = unless_near_lem false convention day new h

  unsearched : (convention : Convention) (day new : ℕ) → searches convention ≡ false → adjusted mask closed convention day ≡ given new → new ≡ day
  unfolding searches
  unsearched Unadjusted day new k h = unadjusted_same (is_open_day mask closed) day new h
  unsearched Following day new k h = absurd (false≢true (sym k))
  unsearched ModifiedFollowing day new k h = absurd (false≢true (sym k))
  unsearched Preceding day new k h = absurd (false≢true (sym k))
  unsearched ModifiedPreceding day new k h = absurd (false≢true (sym k))

  -- one date alone is adjusted as the first and then as the last: an adjusted date is open, and stays
  again_near : (s : Bool) (first last : Convention) (b : Bool) (day one new : ℕ) → searches first ≡ s → adjusted mask closed first day ≡ given one → moved mask closed (unless b last) one ≡ given new → Near day new
  unfolding moved unless
  again_near true first last true day one new k h g =
      let e : one ≡ new = one_given (given new) one new (sym g) refl in
      rw (← e) (near (is_open_day mask closed) first day one h)
  again_near true first last false day one new k h g =
      let o = searched_open (is_open_day mask closed) first day one k h in
      let e : new ≡ one = within_given one new (sym (open_stays (is_open_day mask closed) one o last) ∙ g) in
      rw e (near (is_open_day mask closed) first day one h)
  again_near false first last b day one new k h g =
      let e : one ≡ day = unsearched first day one k h in
      unless_near_lem b last day new (rw e at g)

  alone_near : (a b : Bool) (first last : Convention) (day one new : ℕ) → moved mask closed (unless a first) day ≡ given one → moved mask closed (unless b last) one ≡ given new → Near day new
  unfolding moved unless
  alone_near true b first last day one new h g =
      let e : one ≡ day = sym (one_given (given one) day one (sym h) refl) in
      unless_near_lem b last day new (rw e at g)
  alone_near false b first last day one new h g = again_near (searches first) first last b day one new refl h g

-- ---- lists of dates that were moved
each_near : (f : ℕ → Answer ℕ) → ((x y : ℕ) → f x ≡ given y → Near x y) → (xs ys : List ℕ) → each f xs ≡ given ys → (length ys ≡ length xs) × (farthest ys xs ≤ 30)
unfolding each farthest
each_near f k [] ys h = let e : ys ≡ [] = one_given (given ys) ys [] refl (sym h) in (ap length e, rw e (omega arith))
each_near f k (x ∷ xs) ys h =
    let m = each_moved f x xs ys h in
    let a = near_apart x m.first (k x m.first m.first_moved) in
    let l = each_near f k xs m.others m.others_moved in
    (ap length m.so ∙ ap suc l.0, rw m.so (omega (arith, a, l.1)))

record Ended (l : List ℕ) : Type 0 where
  former : List ℕ
  last : ℕ
  so : l ≡ former ++ (last ∷ [])

ended : (x : ℕ) (xs : List ℕ) → Ended (x ∷ xs)
ended x [] = record { former = []; last = x; so = refl }
ended x (y ∷ ys) = let e = ended y ys in record { former = x ∷ e.former; last = e.last; so = ap (λ (l : List ℕ). x ∷ l) e.so }

-- the first, the last and the middle dates that were moved, taken out of the list that they stand in
record One (f : ℕ → Answer ℕ) (x : ℕ) (among : ℕ → List ℕ) (l : List ℕ) : Type 0 where
  value : ℕ
  is_moved : f x ≡ given value
  so : l ≡ among value

one_of : (f : ℕ → Answer ℕ) (x : ℕ) (among : ℕ → List ℕ) (l : List ℕ) → then (f x) (λ y. given (among y)) ≡ given l → One f x among l
one_of f x among l h =
    let s = then_stepped (f x) (λ y. given (among y)) l h in
    record { value = s.value; is_moved = s.from; so = one_given (given l) l (among s.value) refl (sym s.to) }

first_of : (f : ℕ → Answer ℕ) (x : ℕ) (rest l : List ℕ) → on_first f (x ∷ rest) ≡ given l → One f x (λ y. y ∷ rest) l
first_of f x rest l h = one_of f x (λ y. y ∷ rest) l (sym (on_first_lem f x rest) ∙ h)

last_of : (f : ℕ → Answer ℕ) (xs : List ℕ) (t : ℕ) (l : List ℕ) → on_last f (xs ++ (t ∷ [])) ≡ given l → One f t (λ y. xs ++ (y ∷ [])) l
last_of f xs t l h = one_of f t (λ y. xs ++ (y ∷ [])) l (sym (on_last_lem f xs t) ∙ h)

record Middle (f : ℕ → Answer ℕ) (x : ℕ) (ys : List ℕ) (t : ℕ) (l : List ℕ) : Type 0 where
  value : List ℕ
  are_moved : each f ys ≡ given value
  so : l ≡ x ∷ (value ++ (t ∷ []))

middle_of : (f : ℕ → Answer ℕ) (x : ℕ) (ys : List ℕ) (t : ℕ) (l : List ℕ) → on_middle f (x ∷ (ys ++ (t ∷ []))) ≡ given l → Middle f x ys t l
middle_of f x ys t l h =
    let s = then_stepped (each f ys) (λ us. given (x ∷ (us ++ (t ∷ [])))) l (sym (on_middle_lem f x ys t) ∙ h) in
    record { value = s.value; are_moved = s.from; so = one_given (given l) l (x ∷ (s.value ++ (t ∷ []))) refl (sym s.to) }

-- the adjustments, taken apart
record Taken (q : Request) (closed : List ℕ) (seed : ℕ) (gs ps : List ℕ) : Type 0 where
  one : List ℕ
  two : List ℕ
  end : Bool
  first : on_first (moved q.mask closed (first_move q)) gs ≡ given one
  last : on_last (moved q.mask closed (last_move q)) one ≡ given two
  middle : on_middle (moved q.mask closed (middle_move end q.convention)) two ≡ given ps

taken : (q : Request) (closed : List ℕ) (seed : ℕ) (gs ps : List ℕ) → adjustments q closed seed gs ≡ given ps → Taken q closed seed gs ps
unfolding adjustments
taken q closed seed gs ps h =
    let a = then_stepped (on_first (moved q.mask closed (first_move q)) gs) _ ps h in
    let b = then_stepped (on_last (moved q.mask closed (last_move q)) a.value) _ ps a.to in
    let c = then_stepped (seed_at_end q.monthend q.mask closed seed) _ ps b.to in
    record { one = a.value; two = b.value; end = c.value; first = a.from; last = b.from; middle = c.to }

module _ (q : Request) (closed : List ℕ) (seed : ℕ) where
  first_near : (x y : ℕ) → moved q.mask closed (first_move q) x ≡ given y → Near x y
  unfolding first_move
  first_near x y h = unless_near_lem q.mask closed (is_old_cds (rule_in_force q)) q.convention x y h

  last_near : (x y : ℕ) → moved q.mask closed (last_move q) x ≡ given y → Near x y
  unfolding last_move
  last_near x y h = unless_near_lem q.mask closed (is_credit (rule_in_force q)) q.terminal x y h

  both_near : (x y z : ℕ) → moved q.mask closed (first_move q) x ≡ given y → moved q.mask closed (last_move q) y ≡ given z → Near x z
  unfolding first_move last_move
  both_near x y z h g = alone_near q.mask closed (is_old_cds (rule_in_force q)) (is_credit (rule_in_force q)) q.convention q.terminal x y z h g

  alone : (x : ℕ) (ps : List ℕ) → Taken q closed seed (x ∷ []) ps → farthest ps (x ∷ []) ≤ 30
  unfolding farthest
  alone x ps t =
      let a = first_of _ x [] t.one t.first in
      let b = last_of _ [] a.value t.two (sym (ap (on_last (moved q.mask closed (last_move q))) a.so) ∙ t.last) in
      let whole : b.value ∷ [] ≡ ps = one_given (given ps) (b.value ∷ []) ps (sym (sym (on_no_middle _ b.value) ∙ sym (ap (on_middle (moved q.mask closed (middle_move t.end q.convention))) b.so) ∙ t.middle)) refl in
      let n = near_apart x b.value (both_near x a.value b.value a.is_moved b.is_moved) in
      subst (λ (l : List ℕ). farthest l (x ∷ []) ≤ 30) whole (omega (arith, n))

  several : (x : ℕ) (ys : List ℕ) (z : ℕ) (ps : List ℕ) → Taken q closed seed (x ∷ (ys ++ (z ∷ []))) ps → farthest ps (x ∷ (ys ++ (z ∷ []))) ≤ 30
  unfolding farthest
  several x ys z ps t =
      let a = first_of _ x (ys ++ (z ∷ [])) t.one t.first in
      let b = last_of _ (a.value ∷ ys) z t.two (sym (ap (on_last (moved q.mask closed (last_move q))) a.so) ∙ t.last) in
      let c = middle_of _ a.value ys b.value ps (sym (ap (on_middle (moved q.mask closed (middle_move t.end q.convention))) b.so) ∙ t.middle) in
      let first = near_apart x a.value (first_near x a.value a.is_moved) in
      let last = near_apart z b.value (last_near z b.value b.is_moved) in
      let mid = each_near (moved q.mask closed (middle_move t.end q.convention)) (middle_near q.mask closed t.end q.convention) ys c.value c.are_moved in
      let rest = side_append 30 c.value (b.value ∷ []) ys (z ∷ []) mid.0 mid.1 (omega (arith, last)) in
      subst (λ (l : List ℕ). farthest l (x ∷ (ys ++ (z ∷ []))) ≤ 30) (sym c.so) (omega (arith, first, rest))

  adjustments_near : (gs ps : List ℕ) → adjustments q closed seed gs ≡ given ps → farthest ps gs ≤ 30
  adjustments_near [] ps h = rw (none_beside ps) (omega arith)
  adjustments_near (x ∷ []) ps h = alone x ps (taken q closed seed (x ∷ []) ps h)
  adjustments_near (x ∷ (y ∷ ys)) ps h = by (ended y ys)
    where
      by : Ended (y ∷ ys) → farthest ps (x ∷ (y ∷ ys)) ≤ 30
      by e =
          subst (λ (l : List ℕ). adjustments q closed seed (x ∷ l) ≡ given ps → farthest ps (x ∷ l) ≤ 30) (sym e.so)
          (λ k. several x e.former e.last ps (taken q closed seed (x ∷ (e.former ++ (e.last ∷ []))) ps k)) h

  pairs_near : (ds : List ℕ) (pairs : Pairs) → pairs_of q closed seed ds ≡ given pairs → farthest pairs.paid pairs.unadjusted ≤ 30
  unfolding pairs_of
  pairs_near ds pairs h =
      let w = then_stepped (wednesdays (rule_in_force q) q.mask closed ds) _ pairs h in
      let a = then_stepped (adjustments q closed seed w.value) _ pairs w.to in
      let p : ◌≡◌ {A = Pairs} (record { paid = a.value; unadjusted = w.value }) pairs = one_given (given pairs) _ pairs (sym a.to) refl in
      subst (λ (x : Pairs). farthest x.paid x.unadjusted ≤ 30) p (adjustments_near w.value a.value a.from)

-- ---- every build's number is at most 30
pub moved_at_most : (q : Request) (closed : List ℕ) (dates flags unadjusted : ℕ) → moved_of (entries_of q closed dates flags unadjusted) ≤ 30
unfolding moved_of
moved_at_most q closed dates flags unadjusted = by (entries_of q closed dates flags unadjusted) refl
  where
    beside : (ps gs ps' gs' : List ℕ) → ps ≡ ps' → gs ≡ gs' → farthest ps' gs' ≤ 30 → farthest ps gs ≤ 30
    beside ps gs ps' gs' e f h = rw (e, f) h

    by : (o : Answer Entries) → entries_of q closed dates flags unadjusted ≡ o → moved_of o ≤ 30
    by (refused n) h = omega arith
    by (given e) h =
        let f = from_pairs q closed dates flags unadjusted e h in
        beside e.schedule.dates e.unadjusted _ _ f.paid_left f.unadjusted_left
        (side_left 30 f.pairs.paid f.pairs.paid f.pairs.unadjusted f.even_pairs (pairs_near q closed f.made.seed f.made.dates f.pairs f.their_pairs))
