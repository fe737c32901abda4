-- The steps after generating leave an ascending list of days of the span as it is, where nothing is adjusted.
-- Assumes nothing.
use Rattle.std.specs.Prelude.{ℕ, zero, suc, ◌+◌, ◌-◌, ◌≤◌, ◌<◌, ◌≡◌, refl, Bool, true, false, ◌&&◌, List, [], ◌∷◌, leb, length, get_or, take, drop}
use Rattle.std.proofs.Common.{ap, sym, inl, inr, ⊎_elim, arith}
use Rattle.std.proofs.lemmas.Bool.{false≢true, lt-leb}
use Rattle.refusal.specs.Answer.{Answer, given, then}
use Rattle.calendar.specs.declared.Convention.TheVariants.{Unadjusted}
use Rattle.steps.specs.declared.Rule.TheVariants.{Backward}
use Rattle.steps.specs.declared.Move.TheVariants.{Adjust}
use Rattle.steps.specs.declared.Request.{Request}
use Rattle.steps.specs.Rules.{rule_number, one_of, rule_in_force, is_old_cds, is_credit}
use Rattle.steps.specs.Finish.{moved, each, between, on_first, on_last, on_middle, wednesdays_by, wednesdays, unless, first_move, last_move, middle_move, seed_at_end, adjustments, meet_at_end, merge_end_if, merge_end, meet_at_front, merge_front_if, merge_front, finish}
use Rattle.steps.specs.Laws.Parts.{in_parts}
use Rattle.outcomes.specs.Laws.Span.{le_or_lt, InSpan}
use Rattle.plain.specs.Listed.{◌∈◌, Ascending, ascending_at}
use Rattle.plain.specs.Laws.Turns.{stays}

-- ---- a list in parts
in_take : (k d : ℕ) (ds : List ℕ) → d ∈ take k ds → d ∈ ds
in_take zero d ds h = absurd h
in_take (suc k) d [] h = h
in_take (suc k) d (x ∷ xs) (inl e) = inl e
in_take (suc k) d (x ∷ xs) (inr h) = inr (in_take k d xs h)

in_drop : (k d : ℕ) (ds : List ℕ) → d ∈ drop k ds → d ∈ ds
in_drop zero d ds h = h
in_drop (suc k) d [] h = h
in_drop (suc k) d (x ∷ xs) h = inr (in_drop k d xs h)

-- ---- dates that do not move
each_same : (f : ℕ → Answer ℕ) (ds : List ℕ) → ((d : ℕ) → d ∈ ds → f d ≡ given d) → each f ds ≡ given ds
unfolding each then
each_same f [] s = refl
each_same f (x ∷ xs) s = rw (s x (inl refl), each_same f xs (λ d h. s d (inr h)))

between_same : (f : ℕ → Answer ℕ) (a b : ℕ) (ds : List ℕ) → a ≤ b → ((d : ℕ) → d ∈ ds → f d ≡ given d) → between f a b ds ≡ given ds
unfolding between then
between_same f a b ds h s =
    rw (each_same f (take (b - a) (drop a ds)) (λ d i. s d (in_drop a d ds (in_take (b - a) d (drop a ds) i))))
    (ap given (in_parts a b ds h))

module _ (f : ℕ → Answer ℕ) (ds : List ℕ) (s : (d : ℕ) → d ∈ ds → f d ≡ given d) where
  pub first_same : on_first f ds ≡ given ds
  unfolding on_first
  first_same = between_same f 0 1 ds (omega arith) s

  pub last_same : on_last f ds ≡ given ds
  unfolding on_last
  last_same = between_same f (length ds - 1) (length ds) ds (omega arith) s

  pub middle_same : on_middle f ds ≡ given ds
  unfolding on_middle
  middle_same = between_same f 1 (1 + (length ds - 2)) ds (omega arith) s

-- ---- an ascending list is not merged
short : (a b : Bool) → a ≡ false → (a && b) ≡ false
short true b e = absurd (false≢true (sym e))
short false b e = refl

both_no : (a b : Bool) → b ≡ false → (a && b) ≡ false
both_no true b e = e
both_no false b e = refl

apart_end : (ds : List ℕ) → Ascending ds → meet_at_end ds ≡ false
unfolding meet_at_end
apart_end ds a =
    ⊎_elim
    (λ (h : 2 ≤ length ds). both_no (leb 2 (length ds)) _ (lt-leb (get_or ds (length ds - 1) 0) (get_or ds (length ds - 2) 0) (ascending_at ds (length ds - 2) (length ds - 1) a (omega arith) (omega arith))))
    (λ (h : length ds < 2). short _ (leb (get_or ds (length ds - 1) 0) (get_or ds (length ds - 2) 0)) (lt-leb 2 (length ds) h))
    (le_or_lt 2 (length ds))

apart_front : (ds : List ℕ) → Ascending ds → meet_at_front ds ≡ false
unfolding meet_at_front
apart_front ds a =
    ⊎_elim
    (λ (h : 2 ≤ length ds). both_no (leb 2 (length ds)) _ (lt-leb (get_or ds 1 0) (get_or ds 0 0) (ascending_at ds 0 1 a (omega arith) (omega arith))))
    (λ (h : length ds < 2). short _ (leb (get_or ds 1 0) (get_or ds 0 0)) (lt-leb 2 (length ds) h))
    (le_or_lt 2 (length ds))

pub merged_same : (ds fs : List ℕ) → Ascending ds → merge_front (merge_end ds fs) ≡ given (record { dates = ds; flags = fs })
unfolding merge_front merge_end merge_end_if merge_front_if
merged_same ds fs a = rw (apart_end ds a, apart_front ds a)

-- ---- all of it
module _
    (q : Request) (closed : List ℕ) (seed : ℕ) (ds fs : List ℕ)
    (rule : rule_in_force q ≡ Backward) (convention : q.convention ≡ Unadjusted) (terminal : q.terminal ≡ Unadjusted) (monthend : q.monthend ≡ false)
    (span : (d : ℕ) → d ∈ ds → InSpan d) (ascends : Ascending ds)
  where
    still : (d : ℕ) → d ∈ ds → moved q.mask closed (Adjust Unadjusted) d ≡ given d
    unfolding moved
    still d h = stays q.mask closed d (span d h)

    adjusted_same : adjustments q closed seed ds ≡ given ds
    unfolding adjustments first_move last_move middle_move seed_at_end unless is_old_cds is_credit one_of rule_number then
    adjusted_same =
        rw (rule, convention, terminal, monthend, first_same (moved q.mask closed (Adjust Unadjusted)) ds still, last_same (moved q.mask closed (Adjust Unadjusted)) ds still, middle_same (moved q.mask closed (Adjust Unadjusted)) ds still)

    pub finished_same : finish q closed seed ds fs ≡ given (record { dates = ds; flags = fs })
    unfolding finish wednesdays wednesdays_by one_of rule_number then
    finished_same = rw (rule, adjusted_same) (merged_same ds fs ascends)
