-- The mirror of demand 3 holds of the definition of a build, and of the steps with no room limit; no two outcomes meet it.
-- Assumes nothing.
use Rattle.std.specs.Prelude.{ℕ, suc, ◌-◌, ◌*◌, ◌/◌, ◌≤◌, ◌<◌, min, ◌≡◌, refl, List, [], ◌∷◌, ◌++◌, length, replicate}
use Rattle.std.proofs.Common.{ap, sym, ◌∙◌, subst, ⊎_elim, arith}
use Rattle.refusal.specs.Answer.{Answer, given, refused, then, ROOM}
use Rattle.refusal.specs.Laws.Answers.{never_both, one_given}
use Rattle.date.specs.Laws.Moves.{book_from, book_le}
use Rattle.steps.specs.declared.Request.{Request}
use Rattle.steps.specs.Generate.{generate}
use Rattle.steps.specs.Finish.{finish}
use Rattle.steps.specs.Build.{Schedule, admitted, build_of}
use Rattle.outcomes.specs.NoLimit.{steps_in, steps_cut, NoLimit, no_limit_in}
use Rattle.outcomes.specs.Laws.Span.{le_or_lt, InSpan}
use Rattle.plain.specs.Listed.{one_list}
use Rattle.plain.specs.Demand.{Passes, tenor_length, tenor_count, TooLong}
use Rattle.plain.specs.Forward.{PlainForward, DueOn, effective, between, termination, tenors_after, LiesAfter, OwedOn, LastFlag, regular, irregular, FlaggedOn, MostOn, AcceptedOn, KeptOn, DemandOn, StepsOn, OwedOnOnce, MostOnOnce, ChecksOn}
use Rattle.plain.proofs.Laws.Rising.{GeneratedOn}
use Rattle.plain.proofs.Laws.Added.{span_on}
use Rattle.plain.proofs.Laws.Onward.{finished_on, checks_on, most_is, most_only, generated_on}
use Rattle.plain.proofs.Laws.Proved.{one_of, over_is}

module _ (q : Request) (closed : List ℕ) (dates flags : ℕ) (p : PlainForward q) (c : Passes q closed dates flags) where
  owed_span : (d : ℕ) → DueOn (tenors_after q) q.effective.day q.termination.day d → InSpan d
  owed_span d (effective e) = rw e (record { low = omega (arith, book_from q.effective.day c.effective_in_book); high = omega (arith, book_le q.effective.day c.effective_in_book) })
  owed_span d (between l h o) = span_on q.effective.day (o.count * tenor_length q) q.tenor.unit d o.lies
  owed_span d (termination e) = rw e (record { low = omega (arith, book_from q.termination.day c.termination_in_book); high = omega (arith, book_le q.termination.day c.termination_in_book) })

  build_is : build_of q closed dates flags ≡ steps_in q closed (min dates 4096)
  unfolding build_of admitted
  build_is = rw ((checks_on q p closed dates flags).1 c) (steps_cut q closed dates)

  module _ (m : ℕ) (w : MostOn q m) (room : ℕ) where
    abbrev g : GeneratedOn q.effective.day q.termination.day room (tenors_after q) (m / tenor_count q) (generate q closed room)
    g = generated_on q p closed dates flags c m w room

    abbrev schedule : Schedule
    schedule = record { dates = g.dates; flags = replicate (length g.dates - 2) 1 ++ (g.flag ∷ []); tries = suc (m / tenor_count q) }

    done : finish q closed q.effective.day g.dates (replicate (length g.dates - 2) 1 ++ (g.flag ∷ [])) ≡ given (record { dates = g.dates; flags = replicate (length g.dates - 2) 1 ++ (g.flag ∷ []) })
    done = finished_on q p closed q.effective.day g.dates _ (λ d h. owed_span d (g.lists.only d h)) g.lists.ascends

    fits : length g.dates ≤ room → steps_in q closed room ≡ given schedule
    unfolding steps_in then
    fits h = rw (g.accepted h, done)

    over : room < length g.dates → steps_in q closed room ≡ refused ROOM
    unfolding steps_in then
    over h = rw (g.refuses h)

    last_is : LastFlag q g.flag
    last_is = ⊎_elim (λ (h : (g.flag ≡ 1) × LiesAfter q q.termination.day). regular h.0 h.1) (λ (h : (g.flag ≡ 0) × (LiesAfter q q.termination.day → ⊥)). irregular h.0 h.1) g.last_flag

    says : AcceptedOn q g.dates m schedule
    says = record { dates = refl; flags = record { last = g.flag; last_flag = last_is; all_flags = refl }; tries = omega arith }

    kept : KeptOn q (room < length g.dates) g.dates m (steps_in q closed room)
    kept = record {
      refused_exactly = (
        λ r. ⊎_elim (λ (h : length g.dates ≤ room). absurd (never_both _ schedule ROOM (fits h) r)) (λ (h : room < length g.dates). h) (le_or_lt (length g.dates) room),
        over,
      );
      accepted_else = λ n. ⊎_elim (λ (h : length g.dates ≤ room). (schedule, fits h, says)) (λ (h : room < length g.dates). absurd (n h)) (le_or_lt (length g.dates) room);
    }

-- ---- the steps with any room
pub steps_on : StepsOn
steps_on q closed dates flags p c ds o m w room =
    let g = generated_on q p closed dates flags c m w room in
    subst (λ (l : List ℕ). KeptOn q (room < length l) l m (steps_in q closed room)) (one_list g.lists o) (kept q closed dates flags p c m w room)

-- so with no room limit the list owed is given
pub no_limit_on : (q : Request) (closed : List ℕ) (dates flags : ℕ) → PlainForward q → Passes q closed dates flags
    → (ds : List ℕ) → OwedOn q ds → (m : ℕ) → MostOn q m → (s : Schedule) × NoLimit q closed (given s) × AcceptedOn q ds m s
no_limit_on q closed dates flags p c ds o m w =
    let s = (steps_on q closed dates flags p c ds o m w (length ds)).accepted_else (λ h. omega arith) in
    (s.0, no_limit_in q closed (length ds) (given s.0) s.1 (λ f. never_both _ s.0 ROOM refl f), s.2)

-- ---- a build
too_long : (room : ℕ) (ds : List ℕ) → min room 4096 < length ds → TooLong room ds
too_long room ds h = ⊎_elim (λ (i : length ds ≤ min room 4096). absurd (no i)) (λ (i : TooLong room ds). i) (one_of room ds)
  where
    no : length ds ≤ min room 4096 → ⊥
    no i = omega arith

pub demand_on : DemandOn
demand_on q closed dates flags p c ds o m w =
    let k = steps_on q closed dates flags p c ds o m w (min dates 4096) in
    let b = build_is q closed dates flags p c in
    record {
      refused_exactly = (λ r. too_long dates ds (k.refused_exactly.0 (sym b ∙ r)), λ h. b ∙ k.refused_exactly.1 (over_is dates ds h));
      accepted_else = λ n. let s = k.accepted_else (λ h. n (too_long dates ds h)) in (s.0, b ∙ s.1, s.2);
    }

pub owed_on_once : OwedOnOnce
owed_on_once q closed dates flags p c =
    let w = most_is q p closed dates flags c in
    let g = generated_on q p closed dates flags c w.0 w.1 0 in
    (g.dates, g.lists, λ ds o. one_list o g.lists)

pub most_on_once : MostOnOnce
most_on_once q closed dates flags p c = let w = most_is q p closed dates flags c in (w.0, w.1, λ m v. most_only q p closed dates flags c w.0 m w.1 v)

pub checks_are_on : ChecksOn
checks_are_on q closed dates flags p = checks_on q p closed dates flags

-- ---- no two outcomes meet it
same_last : (q : Request) (a b : ℕ) → LastFlag q a → LastFlag q b → a ≡ b
same_last q a b (regular e l) (regular e' l') = e ∙ sym e'
same_last q a b (regular e l) (irregular e' n) = absurd (n l)
same_last q a b (irregular e n) (regular e' l) = absurd (n l)
same_last q a b (irregular e n) (irregular e' n') = e ∙ sym e'

same_flags : (q : Request) (ds a b : List ℕ) → FlaggedOn q ds a → FlaggedOn q ds b → a ≡ b
same_flags q ds a b f g =
    f.all_flags
    ∙ ap (λ (x : ℕ). replicate (length ds - 2) 1 ++ (x ∷ [])) (same_last q f.last g.last f.last_flag g.last_flag)
    ∙ sym g.all_flags

pub same_schedule : (q : Request) (ds : List ℕ) (m : ℕ) (s s' : Schedule) → AcceptedOn q ds m s → AcceptedOn q ds m s' → s ≡ s'
same_schedule q ds m s s' a b =
    let d : s.dates ≡ s'.dates = a.dates ∙ sym b.dates in
    let f : s.flags ≡ s'.flags = same_flags q ds s.flags s'.flags a.flags b.flags in
    let t : s.tries ≡ s'.tries = a.tries ∙ sym b.tries in
    λ i. record { dates = d i; flags = f i; tries = t i }

kept_one : (q : Request) (dates : ℕ) (ds : List ℕ) (m : ℕ) (o o' : Answer Schedule) → KeptOn q (TooLong dates ds) ds m o → KeptOn q (TooLong dates ds) ds m o' → o ≡ o'
kept_one q dates ds m o o' a b =
    ⊎_elim
    (λ (h : length ds ≤ min dates 4096).
    let s = a.accepted_else (λ t. no h (over_is dates ds t)) in
    let s' = b.accepted_else (λ t. no h (over_is dates ds t)) in
    s.1 ∙ ap given (same_schedule q ds m s.0 s'.0 s.2 s'.2) ∙ sym s'.1)
    (λ (h : TooLong dates ds). a.refused_exactly.1 h ∙ sym (b.refused_exactly.1 h))
    (one_of dates ds)
  where
    no : length ds ≤ min dates 4096 → min dates 4096 < length ds → ⊥
    no h t = omega arith

pub settled_on : (q : Request) (closed : List ℕ) (dates flags : ℕ) → PlainForward q → Passes q closed dates flags
    → (ds ds' : List ℕ) → OwedOn q ds → OwedOn q ds' → (m m' : ℕ) → MostOn q m → MostOn q m'
    → (o o' : Answer Schedule) → KeptOn q (TooLong dates ds) ds m o → KeptOn q (TooLong dates ds') ds' m' o' → o ≡ o'
settled_on q closed dates flags p c ds ds' x x' m m' v v' o o' k k' =
    kept_one q dates ds m o o' k
    (subst (λ (l : List ℕ). KeptOn q (TooLong dates l) l m o') (one_list x' x) (subst (λ (n : ℕ). KeptOn q (TooLong dates ds') ds' n o') (most_only q p closed dates flags c m m' v v') k'))

-- what is given has these dates, these flags and these tries
pub told_on : (q : Request) (dates : ℕ) (ds : List ℕ) (m : ℕ) (s : Schedule) → KeptOn q (TooLong dates ds) ds m (given s) → AcceptedOn q ds m s
told_on q dates ds m s k =
    let t = k.accepted_else (λ h. never_both (given s) s ROOM refl (k.refused_exactly.1 h)) in
    subst (λ (x : Schedule). AcceptedOn q ds m x) (one_given (given s) t.0 s t.1 refl) t.2
