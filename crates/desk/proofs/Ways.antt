-- A law for each way through the lookup and the search, in the code's terms.
-- Assumes nothing.
use Prim.Native.Nat.{ℕ, zero, suc, ◌+◌, ◌-◌, ◌≤◌, ◌<◌}
use mathlib.Core.Path.{◌≡◌, refl, sym, ap, ◌∙◌}
use mathlib.Core.Bool.{Bool, true, false}
use mathlib.Core.List.{List, [], ◌∷◌}
use native.Mathlib.Omega.{arith}
use lib.Dec.{eqb, leb}
use lib.ListN.{length, get_or, take, drop, set}
use borrow.Author.Tests.{leb-true, leb-false, le-leb, lt-leb, eq-eqb, ne_eqb}
use Rattle.refusal.specs.Answer.{Answer, given, refused, need, then, CALENDAR, ROOM}
use Rattle.refusal.specs.Laws.Answers.{both, need_given}
use Rattle.date.specs.Civil.{day_number}
use Rattle.date.specs.Date.{make_of}
use Rattle.calendar.specs.Open.{closed_ok}
use Rattle.calendar.specs.Laws.Kept.{checked_keeps}
use Rattle.calendar.specs.Inner.Places.{LowerBound}
use Rattle.std.specs.Prelude.{Result, Ok, Err}
use Rattle.refusal.specs.declared.Refusal.{Refusal}
use Rattle.refusal.specs.Refusals.{number_of}
use Rattle.desk.specs.declared.Found.{Found}
use Rattle.desk.specs.Desk.{entries_in, or_else, run_of, in_years, asked_of}
use Rattle.desk.specs.Runs.{day_or, holder_number, PartOf, pick_l, chosen, standing, Stands, Tells, count_of, Written, PlaceTold}
use Rattle.desk.specs.Laws.Entries.{one_part}
use Rattle.desk.specs.Laws.Years.{year_from, make_first, make_last, year_is, year_earlier, year_later, year_some, last_in}

-- ---- the first and the last day of a year
module _ (y : ℕ) (a : Answer ℕ) (r : ℕ) where
  pub day_first : a ≡ make_of y 1 1 → r ≡ day_or a → in_years y ≡ true → r ≡ day_number y 1 1
  unfolding day_or
  day_first p q e = q ∙ ap day_or (p ∙ make_first y e)

  pub day_last : a ≡ make_of y 12 31 → r ≡ day_or a → in_years y ≡ true → r ≡ day_number y 12 31
  unfolding day_or
  day_last p q e = q ∙ ap day_or (p ∙ make_last y e)

pub last_fits : (y last : ℕ) → in_years y ≡ true → last ≡ day_number y 12 31 → last + 1 < 4294967296
last_fits y last e p = omega (arith, p, last_in y e)

-- ---- the entries of a year are one part
module _ (list : List ℕ) (y first last a e : ℕ) (ok : closed_ok list ≡ true) (in_it_lem : in_years y ≡ true) (f : first ≡ day_number y 1 1) (l : last ≡ day_number y 12 31) (low : LowerBound list first a) (high : LowerBound list (last + 1) e) where
  one : 1 ≤ y
  one = omega (arith, year_from y in_it_lem)

  some : (k : ℕ) → k < length list → 1 ≤ get_or list k 0
  some k h = omega (arith, (checked_keeps list ok).from k h)

  pub part_order : a ≤ e
  part_order = by (leb a e) refl
    where
      by : (b : Bool) → leb a e ≡ b → a ≤ e
      by true q = leb-true a e q
      by false q =
          let z = leb-false a e q in
          let w = low.within in
          let bad : ⊥ = omega (arith, (low.below ok).before e z, high.from ok e (omega arith) (omega arith), year_some y one) in
          absurd bad

  pub part_there : PartOf list y a e
  part_there =
      let n = part_order in
      record {
        order = n;
        within = high.within;
        same =
            one_part y list a (e - a)
            (λ k h m. ne_eqb _ y (year_earlier y (get_or list k 0) one (some k m) (omega (arith, (low.below ok).before k h))))
            (λ k g h m. eq-eqb _ y (year_is y (get_or list k 0) one (some k m) (omega (arith, low.from ok k g m)) (omega (arith, (high.below ok).before k (omega arith)))))
            (λ k g m. ne_eqb _ y (year_later y (get_or list k 0) one (some k m) (omega (arith, high.from ok k (omega arith) m))));
      }

-- ---- its length, and where the run stands
length_part : (list : List ℕ) (a n : ℕ) → a + n ≤ length list → length (take n (drop a list)) ≡ n
unfolding take drop
length_part [] zero zero h = refl
length_part [] zero (suc n) h = let bad : ⊥ = omega arith in absurd bad
length_part [] (suc a) zero h = refl
length_part [] (suc a) (suc n) h = let bad : ⊥ = omega arith in absurd bad
length_part (x ∷ xs) zero zero h = refl
length_part (x ∷ xs) zero (suc n) h = ap suc (length_part xs zero n (omega arith))
length_part (x ∷ xs) (suc a) n h = length_part xs a n (omega arith)

part_length : {list : List ℕ} {y a e : ℕ} → PartOf list y a e → length (entries_in y list) ≡ e - a
part_length {list} {y} {a} {e} p = ap length p.same ∙ length_part list a (e - a) (omega (arith, p.order, p.within))

or_own : (own other : List ℕ) → 0 < length own → or_else own other ≡ own
unfolding or_else
or_own [] other h = let bad : ⊥ = omega arith in absurd bad
or_own (x ∷ xs) other h = refl

or_other : (own other : List ℕ) → length own ≤ 0 → or_else own other ≡ other
unfolding or_else
or_other [] other h = refl
or_other (x ∷ xs) other h = let bad : ⊥ = omega arith in absurd bad

no_entry : (xs : List ℕ) → length xs ≤ 0 → xs ≡ []
no_entry [] h = refl
no_entry (x ∷ xs) h = let bad : ⊥ = omega arith in absurd bad

stands_own : (own other : List ℕ) → 0 < length own → 1 ≡ standing (or_else own other) own
unfolding or_else standing
stands_own [] other h = let bad : ⊥ = omega arith in absurd bad
stands_own (x ∷ xs) other h = refl

stands_other : (own other : List ℕ) → length own ≤ 0 → 0 < length other → 2 ≡ standing (or_else own other) own
unfolding or_else standing
stands_other [] [] h l = let bad : ⊥ = omega arith in absurd bad
stands_other [] (x ∷ xs) h l = refl
stands_other (x ∷ xs) other h l = let bad : ⊥ = omega arith in absurd bad

pub nowhere : (own desk house run : List ℕ) → run ≡ [] → Stands run own desk house 0 0 0
unfolding chosen pick_l standing take drop
nowhere own desk house run q =
    record {
      part = q;
      within = omega arith;
      which = sym (ap (λ (xs : List ℕ). standing xs own) q);
      many = sym (ap length q);
      none = λ z. refl;
    }

-- ---- the run itself
module _ (desk house : List ℕ) (y : ℕ) where
  pub run_own : (own : List ℕ) → own ≡ entries_in y desk → 0 < length own → own ≡ run_of desk house y
  unfolding run_of
  run_own own p h = p ∙ sym (or_own (entries_in y desk) (entries_in y house) (rw (← p) h))

  pub run_other : (own other : List ℕ) → own ≡ entries_in y desk → length own ≤ 0 → other ≡ entries_in y house → other ≡ run_of desk house y
  unfolding run_of
  run_other own other p h q = q ∙ sym (or_other (entries_in y desk) (entries_in y house) (rw (← p) h))

  module _ {a e : ℕ} (p : PartOf desk y a e) where
    pub stands_desk : a < e → Stands (run_of desk house y) (entries_in y desk) desk house 1 a (e - a)
    unfolding run_of chosen pick_l
    stands_desk h =
        let n = part_length p in
        let s : 0 < length (entries_in y desk) = omega arith in
        let q = or_own (entries_in y desk) (entries_in y house) s in
        record {
          part = q ∙ p.same;
          within = omega (arith, p.within);
          which = stands_own (entries_in y desk) (entries_in y house) s;
          many = sym (ap length q ∙ n);
          none = λ z. let bad : ⊥ = omega arith in absurd bad;
        }

    module _ (no : e ≤ a) {b f : ℕ} (o : PartOf house y b f) where
      pub stands_house : b < f → Stands (run_of desk house y) (entries_in y desk) desk house 2 b (f - b)
      unfolding run_of chosen pick_l
      stands_house h =
          let n = part_length p in
          let m = part_length o in
          let none-own : length (entries_in y desk) ≤ 0 = omega arith in
          let s : 0 < length (entries_in y house) = omega arith in
          let q = or_other (entries_in y desk) (entries_in y house) none-own in
          record {
            part = q ∙ o.same;
            within = omega (arith, o.within);
            which = stands_other (entries_in y desk) (entries_in y house) none-own s;
            many = sym (ap length q ∙ m);
            none = λ z. let bad : ⊥ = omega arith in absurd bad;
          }

      pub stands_none : f ≤ b → Stands (run_of desk house y) (entries_in y desk) desk house 0 0 0
      unfolding run_of
      stands_none h =
          let n = part_length p in
          let m = part_length o in
          let q : or_else (entries_in y desk) (entries_in y house) ≡ [] = or_other (entries_in y desk) (entries_in y house) (omega arith) ∙ no_entry (entries_in y house) (omega arith) in
          nowhere (entries_in y desk) desk house _ q

-- ---- a place told, and written into a lent list
module _ (desk house : List ℕ) (year : ℕ) (told : Result Found Refusal) (h : Tells desk house year told) where
  pub tells_run : (f : Found) → told ≡ Ok f → (asked_of desk house year ≡ given tt) × Stands (run_of desk house year) (entries_in year desk) desk house (holder_number f.list) f.start f.count
  unfolding Tells
  tells_run f e = rw e at h

  pub tells_refused : (r : Refusal) → told ≡ Err r → asked_of desk house year ≡ refused (number_of r)
  unfolding Tells
  tells_refused r e = rw e at h

module _ (desk house : List ℕ) (year : ℕ) (lent lent' : List ℕ) where
  pub no_room : length lent < 2 → lent' ≡ lent → PlaceTold desk house year (refused ROOM) lent lent'
  unfolding count_of need Written
  no_room l e =
      let q : leb 2 (length lent) ≡ false = lt-leb 2 (length lent) l in
      record { says = sym (rw q refl); writes = rw q e }

  module _ (room : 2 ≤ length lent) where
    q : leb 2 (length lent) ≡ true
    q = le-leb 2 (length lent) room

    pub place_refused : (n : ℕ) (r : Answer ℕ) → r ≡ refused n → asked_of desk house year ≡ refused n → lent' ≡ lent → PlaceTold desk house year r lent lent'
    unfolding count_of need then Written
    place_refused n r h a e = record { says = h ∙ sym (rw (q, a) refl); writes = rw (q, a) e }

    pub place_put : (list start count : ℕ) (r : Answer ℕ) → (asked_of desk house year ≡ given tt) × Stands (run_of desk house year) (entries_in year desk) desk house list start count → (r ≡ given count) × (lent' ≡ set (set lent 0 list) 1 start) → PlaceTold desk house year r lent lent'
    unfolding count_of need then Written
    place_put list start count r t w =
        let s = t.1 in
        record {
          says = w.0 ∙ ap given s.many ∙ sym (rw (q, t.0) refl);
          writes =
              rw (q, t.0)
              (record {
                start = start;
                part = s.part ∙ ap (λ (k : ℕ). take k (drop start (chosen list desk house))) s.many ∙ ap (λ (k : ℕ). take (length (run_of desk house year)) (drop start (chosen k desk house))) s.which;
                within = omega (arith, s.within, s.many, ap (λ (k : ℕ). length (chosen k desk house)) s.which);
                none = λ z. s.none (s.many ∙ z);
                after = w.1 ∙ ap (λ (k : ℕ). set (set lent 0 k) 1 start) s.which;
              });
        }

-- a list that keeps its rule is short, and so are a place in it and a count of it
pick_short : (a b : Bool) (desk house : List ℕ) → length desk ≤ 4096 → length house ≤ 4096 → length (pick_l a desk (pick_l b house [])) ≤ 4096
unfolding pick_l
pick_short true b desk house p s = p
pick_short false true desk house p s = s
pick_short false false desk house p s = omega arith

short : (xs : List ℕ) → closed_ok xs ≡ true → length xs ≤ 4096
short xs ok = (checked_keeps xs ok).few

chosen_short : (list : ℕ) (desk house : List ℕ) → closed_ok desk ≡ true → closed_ok house ≡ true → length (chosen list desk house) ≤ 4096
unfolding chosen
chosen_short list desk house p s = by (eqb list 1) (eqb list 2)
  where
    by : (a b : Bool) → length (pick_l a desk (pick_l b house [])) ≤ 4096
    by a b = pick_short a b desk house (short desk p) (short house s)

module _ (desk house : List ℕ) (year list start count : ℕ) (t : (asked_of desk house year ≡ given tt) × Stands (run_of desk house year) (entries_in year desk) desk house list start count) where
  all_short : start + count ≤ 4096
  unfolding asked_of
  all_short =
      let ok = both (closed_ok desk) (closed_ok house) (need_given CALENDAR _ _ tt t.0).0 in
      omega (arith, t.1.within, chosen_short list desk house ok.0 ok.1)

  pub start_small : start < 4294967296
  start_small = omega (arith, all_short)

  pub count_small : count < 4294967296
  count_small = omega (arith, all_short)
