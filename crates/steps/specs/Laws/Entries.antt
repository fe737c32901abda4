-- What entries are: without the third list they are 01's schedule, with it the pairs that the merges leave; and the two dates of each are
-- equal where nothing adjusts.
-- Assumes nothing.
use Rattle.std.specs.Prelude.{ℕ, zero, suc, ◌+◌, ◌-◌, ◌≤◌, ◌<◌, min, ◌↔◌, Bool, eqb, leb, length, get_or, set}
use Rattle.std.proofs.Math.Path.{◌≡◌, refl, sym, ap}
use Rattle.std.proofs.Common.{subst, ◌∙◌, arith, length-append, length-drop, drop_of_length-le, take-suc-set, drop-cons, leb-true, eq-eqb, eqb-true}
use Rattle.std.proofs.Math.Bool.{true, false}
use Rattle.std.proofs.lemmas.Bool.{false≢true}
use mathlib.Core.List.{List, [], ◌∷◌, ◌++◌}
use Rattle.std.proofs.Math.ListN.{take, drop, length-take}
use Rattle.refusal.specs.Answer.{Answer, given, refused, need, then, UNEVEN, COLLAPSED, BOOK}
use Rattle.refusal.specs.Laws.Answers.{need_given, never_both, one_given, then_stepped, both}
use Rattle.calendar.specs.declared.Convention.{Convention}
use Rattle.calendar.specs.declared.Convention.TheVariants.{Unadjusted}
use Rattle.calendar.specs.AnyCalendar as any
use Rattle.calendar.specs.Adjust.{adjusted, in_span}
use Rattle.steps.specs.declared.Request.{Request}
use Rattle.steps.specs.Rules.{rule_in_force, is_old_cds, is_credit}
use Rattle.steps.specs.Table.{first_row, input_rows}
use Rattle.steps.specs.Generate.{Made, generate}
use Rattle.steps.specs.Finish.{moved, each, between, on_first, on_last, on_middle, wednesdays, unless, first_move, last_move, middle_move, seed_at_end, adjustments, Merged, meet_at_end, merge_end_if, merge_end, merge_front_if, merge_front, finish}
use Rattle.steps.specs.Build.{Schedule, steps_of, admitted, build_of}
use Rattle.steps.specs.Entries.{Entries, without_former, without_second, left_beside, Pairs, pairs_of, merged_entries, entries_of_made, entry_steps, entries_of, paid_of}
use Rattle.steps.specs.Laws.Parts.{in_parts, each_moved}
use Rattle.steps.specs.Laws.Counts.{adjustments_length}

-- ---- without the third list: 01's build, and refusal 1 where the third list has another length
abbrev forget : Entries → Answer Schedule
forget e = given e.schedule

abbrev scheduled : ℕ → Merged → Answer Schedule
scheduled tries done = given (record { dates = done.dates; flags = done.flags; tries = tries })

forget_made : (q : Request) (closed : List ℕ) (made : Made) → paid_of (entries_of_made q closed made) ≡ then (finish q closed made.seed made.dates made.flags) (λ done. given (record { dates = done.dates; flags = done.flags; tries = made.tries }))
unfolding paid_of entries_of_made pairs_of merged_entries finish then
forget_made q closed made = generated (wednesdays (rule_in_force q) q.mask closed made.dates)
  where
    merges : (unadjusted paid : List ℕ) (m : Answer Merged) → then (then m (λ done. given (record { schedule = record { dates = done.dates; flags = done.flags; tries = made.tries }; unadjusted = left_beside paid unadjusted }))) forget ≡ then m (scheduled made.tries)
    merges unadjusted paid (given done) = refl
    merges unadjusted paid (refused n) = refl

    adjusts : (unadjusted : List ℕ) (a : Answer (List ℕ)) → then (then (then a (λ paid. given (record { paid = paid; unadjusted = unadjusted }))) (merged_entries made.flags made.tries)) forget ≡ then (then a (λ paid. merge_front (merge_end paid made.flags))) (scheduled made.tries)
    adjusts unadjusted (given paid) = merges unadjusted paid (merge_front (merge_end paid made.flags))
    adjusts unadjusted (refused n) = refl

    generated : (w : Answer (List ℕ)) → then (then (then w (λ unadjusted. then (adjustments q closed made.seed unadjusted) (λ paid. given (record { paid = paid; unadjusted = unadjusted })))) (merged_entries made.flags made.tries)) forget ≡ then (then w (λ ds. then (adjustments q closed made.seed ds) (λ ds₂. merge_front (merge_end ds₂ made.flags)))) (scheduled made.tries)
    generated (given unadjusted) = adjusts unadjusted (adjustments q closed made.seed unadjusted)
    generated (refused n) = refl

pub forget_steps : (q : Request) (closed : List ℕ) (room : ℕ) → paid_of (entry_steps q closed room) ≡ steps_of q closed room
unfolding paid_of entry_steps steps_of then
forget_steps q closed room = by (generate q closed _)
  where
    by : (g : Answer Made) → then (then g (entries_of_made q closed)) (λ e. given e.schedule) ≡ then g (λ made. then (finish q closed made.seed made.dates made.flags) (λ done. given (record { dates = done.dates; flags = done.flags; tries = made.tries })))
    by (given made) = forget_made q closed made
    by (refused n) = refl

forget_row : (q : Request) (closed : List ℕ) (dates n : ℕ) → paid_of (admitted n (entry_steps q closed) dates) ≡ admitted n (steps_of q closed) dates
unfolding admitted paid_of then
forget_row q closed dates zero = forget_steps q closed dates
forget_row q closed dates (suc n) = refl

pub forget_all : (q : Request) (closed : List ℕ) (dates flags unadjusted : ℕ) → paid_of (entries_of q closed dates flags unadjusted) ≡ need UNEVEN (eqb dates unadjusted) (build_of q closed dates flags)
unfolding entries_of build_of need paid_of then
forget_all q closed dates flags unadjusted = even (eqb dates unadjusted)
  where
    even : (b : Bool) → paid_of (need UNEVEN b (admitted (first_row (input_rows q closed dates flags)) (entry_steps q closed) dates)) ≡ need UNEVEN b (admitted (first_row (input_rows q closed dates flags)) (steps_of q closed) dates)
    even true = forget_row q closed dates (first_row (input_rows q closed dates flags))
    even false = refl

-- with a third list of the same length
pub forgets : (q : Request) (closed : List ℕ) (dates flags unadjusted : ℕ) → dates ≡ unadjusted → paid_of (entries_of q closed dates flags unadjusted) ≡ build_of q closed dates flags
unfolding need
forgets q closed dates flags unadjusted e = forget_all q closed dates flags unadjusted ∙ rw (eq-eqb dates unadjusted e) refl

-- what is given is given with 01's schedule
pub its_schedule : (q : Request) (closed : List ℕ) (dates flags unadjusted : ℕ) (e : Entries) → entries_of q closed dates flags unadjusted ≡ given e → build_of q closed dates flags ≡ given e.schedule
unfolding entries_of paid_of then
its_schedule q closed dates flags unadjusted e h =
    let even = eqb-true dates unadjusted (need_given UNEVEN (eqb dates unadjusted) _ e h).0 in
    sym (forgets q closed dates flags unadjusted even) ∙ ap paid_of h

-- a refusal is the same with it and without it
pub refused_alike : (o : Answer Entries) (n : ℕ) → (o ≡ refused n) ↔ (paid_of o ≡ refused n)
unfolding paid_of then
refused_alike o n = ((λ e. ap paid_of e), by o)
  where
    by : (a : Answer Entries) → then a forget ≡ refused n → a ≡ refused n
    by (refused k) h = cc
    by (given e) h = absurd (never_both (given e.schedule) e.schedule n refl h)

-- ---- what the merges leave: of the paid dates those of 01's merges, of a list beside them what stands at the same places
pub former_is : (b : Bool) (paid flags : List ℕ) → meet_at_end paid ≡ b → without_former b paid ≡ (merge_end_if b paid flags).dates
unfolding without_former merge_end_if meet_at_end
former_is false paid flags e = refl
former_is true paid flags e =
    let two : 2 ≤ length paid = leb-true 2 (length paid) (both _ _ e).0 in
    let k : length paid - 1 ≡ suc (length paid - 2) = omega arith in
    let h : suc (length paid - 2) < length paid = omega arith in
    let i : length paid - 2 < length paid = omega arith in
    let none : drop (suc (suc (length paid - 2))) paid ≡ [] = drop_of_length-le paid {i = suc (suc (length paid - 2))} (omega arith) in
    rw (k, drop-cons paid (suc (length paid - 2)) 0 h, none, take-suc-set paid (length paid - 2) _ i) refl

pub second_is : (b : Bool) (ds fs : List ℕ) (m : Merged) → merge_front_if b ds fs ≡ given m → without_second b ds ≡ m.dates
unfolding merge_front_if without_second
second_is false ds fs m h = ap (λ (x : Merged). x.dates) (one_given (merge_front_if false ds fs) _ m refl h)
second_is true ds fs m h =
    let n = need_given COLLAPSED (leb 3 (length ds)) _ m h in
    kept ds (leb-true 3 (length ds) n.0) ∙ ap (λ (x : Merged). x.dates) (one_given (given m) _ m (sym n.1) refl)
  where
    kept : (l : List ℕ) → 3 ≤ length l → take 1 l ++ drop 2 l ≡ drop 1 (set l 1 (get_or l 0 0))
    kept [] h = let bad : ⊥ = omega arith in absurd bad
    kept (x ∷ []) h = let bad : ⊥ = omega arith in absurd bad
    kept (x ∷ (y ∷ rest)) h = refl

pub left_is : (paid flags : List ℕ) (m : Merged) → merge_front (merge_end paid flags) ≡ given m → left_beside paid paid ≡ m.dates
unfolding left_beside merge_front merge_end
left_is paid flags m h =
    rw (former_is (meet_at_end paid) paid flags refl) (second_is _ _ _ m h)

-- a list beside another of its length
module _ {A B : Type 0} where
  pub former_length : (b : Bool) (l : List A) (k : List B) → length l ≡ length k → length (without_former b l) ≡ length (without_former b k)
  unfolding without_former
  former_length false l k e = e
  former_length true l k e = simp (length-append, length-take, length-drop) (rw e refl)

  second_length : (b : Bool) (l : List A) (k : List B) → length l ≡ length k → length (without_second b l) ≡ length (without_second b k)
  unfolding without_second
  second_length false l k e = e
  second_length true l k e = simp (length-append, length-take, length-drop) (rw e refl)

  pub left_length : (paid : List ℕ) (l : List A) (k : List B) → length l ≡ length k → length (left_beside paid l) ≡ length (left_beside paid k)
  unfolding left_beside
  left_length paid l k e = second_length _ _ _ (former_length (meet_at_end paid) l k e)

-- ---- entries: the two dates of each together
pub record Entry : Type 0 where
  pub paid : ℕ
  pub unadjusted : ℕ

unfoldable pub together : (paid unadjusted : List ℕ) → List Entry
together [] gs = []
together (p ∷ ps) [] = []
together (p ∷ ps) (g ∷ gs) = record { paid = p; unadjusted = g } ∷ together ps gs

none_together : (ps : List ℕ) → together ps [] ≡ []
unfolding together
none_together [] = refl
none_together (p ∷ ps) = refl

together_length : (ps gs : List ℕ) → length ps ≡ length gs → length (together ps gs) ≡ length ps
unfolding together
together_length [] gs e = refl
together_length (p ∷ ps) [] e = let bad : ⊥ = omega arith in absurd bad
together_length (p ∷ ps) (g ∷ gs) e = ap suc (together_length ps gs (omega arith))

together_take : (n : ℕ) (ps gs : List ℕ) → together (take n ps) (take n gs) ≡ take n (together ps gs)
unfolding together
together_take zero ps gs = refl
together_take (suc n) [] gs = refl
together_take (suc n) (p ∷ ps) [] = refl
together_take (suc n) (p ∷ ps) (g ∷ gs) = ap (λ (l : List Entry). record { paid = p; unadjusted = g } ∷ l) (together_take n ps gs)

together_drop : (n : ℕ) (ps gs : List ℕ) → together (drop n ps) (drop n gs) ≡ drop n (together ps gs)
unfolding together
together_drop zero ps gs = refl
together_drop (suc n) [] gs = refl
together_drop (suc n) (p ∷ ps) [] = none_together (drop n ps)
together_drop (suc n) (p ∷ ps) (g ∷ gs) = together_drop n ps gs

together_append : (ps qs gs hs : List ℕ) → length ps ≡ length gs → together (ps ++ qs) (gs ++ hs) ≡ together ps gs ++ together qs hs
unfolding together
together_append [] qs [] hs e = refl
together_append [] qs (g ∷ gs) hs e = let bad : ⊥ = omega arith in absurd bad
together_append (p ∷ ps) qs [] hs e = let bad : ⊥ = omega arith in absurd bad
together_append (p ∷ ps) qs (g ∷ gs) hs e = ap (λ (l : List Entry). record { paid = p; unadjusted = g } ∷ l) (together_append ps qs gs hs (omega arith))

two_parts_lem : (m n : ℕ) (ps gs : List ℕ) → length ps ≡ length gs → together (take m ps ++ drop n ps) (take m gs ++ drop n gs) ≡ take m (together ps gs) ++ drop n (together ps gs)
two_parts_lem m n ps gs e =
    let k : length (take m ps) ≡ length (take m gs) = simp length-take (omega arith) in
    together_append (take m ps) (drop n ps) (take m gs) (drop n gs) k ∙ rw (together_take m ps gs, together_drop n ps gs) refl

former_together : (b : Bool) (ps gs : List ℕ) → length ps ≡ length gs → together (without_former b ps) (without_former b gs) ≡ without_former b (together ps gs)
unfolding without_former
former_together false ps gs e = refl
former_together true ps gs e = rw (← e, together_length ps gs e) (two_parts_lem (length ps - 2) (length ps - 1) ps gs e)

second_together : (b : Bool) (ps gs : List ℕ) → length ps ≡ length gs → together (without_second b ps) (without_second b gs) ≡ without_second b (together ps gs)
unfolding without_second
second_together false ps gs e = refl
second_together true ps gs e = two_parts_lem 1 2 ps gs e

left_together : (paid ps gs : List ℕ) → length ps ≡ length gs → together (left_beside paid ps) (left_beside paid gs) ≡ left_beside paid (together ps gs)
unfolding left_beside
left_together paid ps gs e =
    second_together _ _ _ (former_length (meet_at_end paid) ps gs e) ∙ rw (former_together (meet_at_end paid) ps gs e) refl

-- ---- where entries are given: what was generated, its pairs, as many of one date as of the other, and what the merges leave of them
pub record FromPairs (q : Request) (closed : List ℕ) (room : ℕ) (e : Entries) : Type 0 where
  pub made : Made
  pub generated : generate q closed (min room 4096) ≡ given made
  pub pairs : Pairs
  pub their_pairs : pairs_of q closed made.seed made.dates ≡ given pairs
  pub even_pairs : length pairs.paid ≡ length pairs.unadjusted
  pub paid_left : e.schedule.dates ≡ left_beside pairs.paid pairs.paid
  pub unadjusted_left : e.unadjusted ≡ left_beside pairs.paid pairs.unadjusted
  pub entries_left : together e.schedule.dates e.unadjusted ≡ left_beside pairs.paid (together pairs.paid pairs.unadjusted)

from_pairs_go : (q : Request) (closed : List ℕ) (room : ℕ) (e : Entries) (made : Made) (pairs : Pairs) → generate q closed (min room 4096) ≡ given made → pairs_of q closed made.seed made.dates ≡ given pairs → merged_entries made.flags made.tries pairs ≡ given e → FromPairs q closed room e
unfolding merged_entries pairs_of
from_pairs_go q closed room e made pairs g h k =
    let w = then_stepped _ _ pairs h in
    let a = then_stepped _ _ pairs w.to in
    let p : ◌≡◌ {A = Pairs} (record { paid = a.value; unadjusted = w.value }) pairs = one_given (given pairs) _ pairs (sym a.to) refl in
    let m = then_stepped _ _ e k in
    let x : ◌≡◌ {A = Entries} (record { schedule = record { dates = m.value.dates; flags = m.value.flags; tries = made.tries }; unadjusted = left_beside pairs.paid pairs.unadjusted }) e = one_given (given e) _ e (sym m.to) refl in
    let dates : e.schedule.dates ≡ left_beside pairs.paid pairs.paid = sym (ap (λ (y : Entries). y.schedule.dates) x) ∙ sym (left_is pairs.paid made.flags m.value m.from) in
    let unadjusted : e.unadjusted ≡ left_beside pairs.paid pairs.unadjusted = sym (ap (λ (y : Entries). y.unadjusted) x) in
    let even : length pairs.paid ≡ length pairs.unadjusted = rw (← p) (adjustments_length q closed made.seed w.value a.value a.from) in
    record {
      made = made;
      generated = g;
      pairs = pairs;
      their_pairs = h;
      even_pairs = even;
      paid_left = dates;
      unadjusted_left = unadjusted;
      entries_left = rw (dates, unadjusted) (left_together pairs.paid pairs.paid pairs.unadjusted even);
    }

pub from_pairs : (q : Request) (closed : List ℕ) (dates flags unadjusted : ℕ) (e : Entries) → entries_of q closed dates flags unadjusted ≡ given e → FromPairs q closed dates e
unfolding entries_of entry_steps entries_of_made admitted
from_pairs q closed dates flags unadjusted e h =
    by (first_row (input_rows q closed dates flags)) (need_given UNEVEN (eqb dates unadjusted) _ e h).1
  where
    by : (n : ℕ) → admitted n (entry_steps q closed) dates ≡ given e → FromPairs q closed dates e
    by zero k =
        let a = then_stepped _ _ e k in
        let b = then_stepped _ _ e a.to in
        from_pairs_go q closed dates e a.value b.value a.from b.from b.to
    by (suc n) k = absurd (never_both _ e (suc n) k refl)

-- as many unadjusted dates as dates
pub as_many_unadjusted : (q : Request) (closed : List ℕ) (dates flags unadjusted : ℕ) (e : Entries) → entries_of q closed dates flags unadjusted ≡ given e → length e.unadjusted ≡ length e.schedule.dates
as_many_unadjusted q closed dates flags unadjusted e h =
    let f = from_pairs q closed dates flags unadjusted e h in
    ap length f.unadjusted_left ∙ left_length f.pairs.paid f.pairs.unadjusted f.pairs.paid (sym f.even_pairs) ∙ sym (ap length f.paid_left)

-- ---- equal pairs: where both conventions are Unadjusted and end of month is off, adjusting moves no date
abbrev Keeps : (ℕ → Answer ℕ) → Type 0
Keeps f = (x y : ℕ) → f x ≡ given y → y ≡ x

unadjusted_keeps : (mask : ℕ) (closed : List ℕ) → Keeps (adjusted mask closed Unadjusted)
unfolding any.adjusted any.by_convention
unadjusted_keeps mask closed x y h = sym (one_given (given y) x y (sym (need_given BOOK (in_span x) (given x) y h).1) refl)

unless_keeps : (mask : ℕ) (closed : List ℕ) (b : Bool) → Keeps (moved mask closed (unless b Unadjusted))
unfolding moved unless
unless_keeps mask closed true x y h = one_given (given y) y x refl (sym h)
unless_keeps mask closed false x y h = unadjusted_keeps mask closed x y h

module _ (f : ℕ → Answer ℕ) (k : Keeps f) where
  each_keeps : (xs ys : List ℕ) → each f xs ≡ given ys → ys ≡ xs
  unfolding each
  each_keeps [] ys h = one_given (given ys) ys [] refl (sym h)
  each_keeps (x ∷ xs) ys h =
      let m = each_moved f x xs ys h in
      m.so ∙ (λ i. k x m.first m.first_moved i ∷ each_keeps xs m.others m.others_moved i)

  between_keeps : (a b : ℕ) (ds ys : List ℕ) → a ≤ b → between f a b ds ≡ given ys → ys ≡ ds
  unfolding between
  between_keeps a b ds ys l h =
      let s = then_stepped _ _ ys h in
      one_given (given ys) ys _ refl (sym s.to)
      ∙ ap (λ (us : List ℕ). take a ds ++ (us ++ drop b ds)) (each_keeps _ s.value s.from)
      ∙ in_parts a b ds l

  first_keeps : (ds ys : List ℕ) → on_first f ds ≡ given ys → ys ≡ ds
  unfolding on_first
  first_keeps ds ys h = between_keeps 0 1 ds ys (omega arith) h

  last_keeps : (ds ys : List ℕ) → on_last f ds ≡ given ys → ys ≡ ds
  unfolding on_last
  last_keeps ds ys h = between_keeps (length ds - 1) (length ds) ds ys (omega arith) h

  middle_keeps : (ds ys : List ℕ) → on_middle f ds ≡ given ys → ys ≡ ds
  unfolding on_middle
  middle_keeps ds ys h = between_keeps 1 (1 + (length ds - 2)) ds ys (omega arith) h

pub record NothingAdjusts (q : Request) : Type 0 where
  pub convention : q.convention ≡ Unadjusted
  pub terminal : q.terminal ≡ Unadjusted
  pub no_month_end : q.monthend ≡ false

-- a schedule as entries, each with its date twice
abbrev pub twice : Schedule → Answer Entries
twice s = given (record { schedule = s; unadjusted = s.dates })

module _ (q : Request) (u : NothingAdjusts q) (closed : List ℕ) where
  move_keeps : (b : Bool) (c : Convention) → c ≡ Unadjusted → Keeps (moved q.mask closed (unless b c))
  move_keeps b c e = subst (λ (v : Convention). Keeps (moved q.mask closed (unless b v))) (sym e) (unless_keeps q.mask closed b)

  first_move_keeps : Keeps (moved q.mask closed (first_move q))
  unfolding first_move
  first_move_keeps = move_keeps (is_old_cds (rule_in_force q)) q.convention u.convention

  last_move_keeps : Keeps (moved q.mask closed (last_move q))
  unfolding last_move
  last_move_keeps = move_keeps (is_credit (rule_in_force q)) q.terminal u.terminal

  no_seed_end : (m : Bool) (seed : ℕ) (end : Bool) → m ≡ false → seed_at_end m q.mask closed seed ≡ given end → end ≡ false
  unfolding seed_at_end
  no_seed_end false seed end e h = one_given (given end) end false refl (sym h)
  no_seed_end true seed end e h = absurd (false≢true (sym e))

  middle_move_keeps : (end : Bool) → end ≡ false → Keeps (moved q.mask closed (middle_move end q.convention))
  unfolding middle_move unless
  middle_move_keeps false e = move_keeps false q.convention u.convention
  middle_move_keeps true e = absurd (false≢true (sym e))

  adjustments_keep : (seed : ℕ) (ds ys : List ℕ) → adjustments q closed seed ds ≡ given ys → ys ≡ ds
  unfolding adjustments
  adjustments_keep seed ds ys h =
      let a = then_stepped _ _ ys h in
      let b = then_stepped _ _ ys a.to in
      let c = then_stepped _ _ ys b.to in
      let end = no_seed_end q.monthend seed c.value u.no_month_end c.from in
      middle_keeps _ (middle_move_keeps c.value end) b.value ys c.to
      ∙ last_keeps _ last_move_keeps a.value b.value b.from
      ∙ first_keeps _ first_move_keeps ds a.value a.from

  pairs_equal : (seed : ℕ) (ds : List ℕ) (pairs : Pairs) → pairs_of q closed seed ds ≡ given pairs → pairs.paid ≡ pairs.unadjusted
  unfolding pairs_of
  pairs_equal seed ds pairs h =
      let w = then_stepped _ _ pairs h in
      let a = then_stepped _ _ pairs w.to in
      let p : ◌≡◌ {A = Pairs} (record { paid = a.value; unadjusted = w.value }) pairs = one_given (given pairs) _ pairs (sym a.to) refl in
      sym (ap (λ (x : Pairs). x.paid) p) ∙ adjustments_keep seed w.value a.value a.from ∙ ap (λ (x : Pairs). x.unadjusted) p

  -- under every rule, for every accepted request
  pub equal_pairs : (dates flags unadjusted : ℕ) (e : Entries) → entries_of q closed dates flags unadjusted ≡ given e → e.unadjusted ≡ e.schedule.dates
  equal_pairs dates flags unadjusted e h =
      let f = from_pairs q closed dates flags unadjusted e h in
      f.unadjusted_left ∙ ap (λ (l : List ℕ). left_beside f.pairs.paid l) (sym (pairs_equal f.made.seed f.made.dates f.pairs f.their_pairs)) ∙ sym f.paid_left

  -- so the build is 01's, with its dates twice
  pub with_its_dates : (dates flags unadjusted : ℕ) → entries_of q closed dates flags unadjusted ≡ need UNEVEN (eqb dates unadjusted) (then (build_of q closed dates flags) twice)
  unfolding need paid_of then entries_of
  with_its_dates dates flags unadjusted = by (eqb dates unadjusted) refl
    where
      paid : (o : Answer Entries) → ((e : Entries) → o ≡ given e → e.unadjusted ≡ e.schedule.dates) → o ≡ then (paid_of o) twice
      paid (refused n) h = refl
      paid (given e) h = ap given (λ i. record { schedule = e.schedule; unadjusted = h e refl i })

      by : (b : Bool) → eqb dates unadjusted ≡ b → entries_of q closed dates flags unadjusted ≡ need UNEVEN b (then (build_of q closed dates flags) twice)
      by true e = paid _ (equal_pairs dates flags unadjusted) ∙ ap (λ (o : Answer Schedule). then o twice) (forgets q closed dates flags unadjusted (eqb-true dates unadjusted e))
      by false e = rw e refl
