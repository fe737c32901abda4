-- What a backward build generates where its candidates fall and nothing is adjusted: the dates owed, over any candidates.
-- Assumes nothing.
use Rattle.std.specs.Prelude.{ℕ, suc, ◌+◌, ◌-◌, ◌≤◌, ◌<◌, ◌≡◌, refl, ◌⊎◌, Bool, true, false, List, ◌∷◌, ltb, length, take, replicate}
use Rattle.std.proofs.Common.{zero-le, sym, ◌∙◌, subst, inl, inr, eq-or-lt_of_le, arith, lt-ltb, le-ltb}
use Rattle.std.proofs.Math.Path.{ap}
use Rattle.std.proofs.Math.Logic.{⊎_elim}
use Rattle.std.proofs.lemmas.List.{take-replicate}
use Rattle.refusal.specs.Answer.{Answer, given, refused, then, ROOM}
use Rattle.date.specs.Date.{SPAN_FIRST, SPAN_LAST}
use Rattle.calendar.specs.declared.Convention.TheVariants.{Unadjusted}
use Rattle.steps.specs.declared.Pace.{Pace}
use Rattle.steps.specs.declared.Seed.{Seed}
use Rattle.steps.specs.Candidates.{Turn, past, keep, candidate, turn_of}
use Rattle.steps.specs.Generate.{Lists, Made, nothing, onto, put, put_new, made_back, last_try, walk}
use Rattle.outcomes.specs.Laws.Span.{le_or_lt, InSpan}
use Rattle.plain.specs.Listed.{◌∈◌, Ascending}
use Rattle.plain.specs.Listed as listed
use Rattle.plain.specs.Most.{day_or}
use Rattle.plain.specs.Laws.Chain.{ones, chain, chain_length, in_chain, from_chain, chain_up, linked}
use Rattle.plain.specs.Laws.Turns.{turn_keeps, turn_ends}
use Rattle.plain.specs.Laws.Ended as ended

-- d is the effective date, or after it and one of the candidates
abbrev pub Due : ℕ → (ℕ → Answer ℕ) → ℕ → Type 0
Due e cand d = (d ≡ e) ⊎ ((e < d) × ((k : ℕ) × (cand k ≡ given d)))

-- the whole of a backward build's generating with no anchors
unfoldable pub from_termination : ℕ → List ℕ → Pace → Seed → ℕ → ℕ → ℕ → Answer Made
from_termination mask closed pace seed room e t =
    then (put room t 1 nothing) (λ l.
    then (walk (turn_of mask closed Unadjusted true pace seed e) room last_try 1 l) (λ w.
    then (put_new mask closed Unadjusted room e e 0 w.lists) (λ m.
    given (made_back w.tries t m))))

-- the candidates from the j-th to termination, after the effective date where the j-th is later
abbrev in_front : Bool → ℕ → List ℕ → List ℕ
in_front true e ds = e ∷ ds
in_front false e ds = ds

unfoldable pub due_list : (ℕ → Answer ℕ) → ℕ → ℕ → List ℕ
due_list cand e j = in_front (ltb e (day_or (cand j))) e (chain (λ k. day_or (cand k)) j)

-- what is generated where the candidates tried are j + 1
pub record GeneratedBack (e t room : ℕ) (cand : ℕ → Answer ℕ) (j : ℕ) (o : Answer Made) : Type 0 where
  pub dates : List ℕ
  pub made : dates ≡ due_list cand e j
  pub lists : listed.ListsAll (Due e cand) dates
  pub flag : ℕ
  pub count : length dates + flag ≡ j + 2
  pub first_flag : ((flag ≡ 1) × ((k : ℕ) × (cand k ≡ given e))) ⊎ ((flag ≡ 0) × ((k : ℕ) → cand k ≡ given e → ⊥))
  pub accepted : length dates ≤ room → o ≡ given (record { dates = dates; flags = flag ∷ replicate (length dates - 2) 1; tries = suc j; seed = t })
  pub refuses : room < length dates → o ≡ refused ROOM

-- the flags of n dates: the marks of all but the one put first
own_flags : (j n : ℕ) → 1 ≤ j → n ≡ j + 1 → take (n - 1) (ones (suc j)) ≡ 1 ∷ ones (n - 2)
own_flags j n h e = let x : n - 1 ≡ suc (n - 2) = omega arith in take-replicate (n - 1) (suc j) 1 (omega arith) ∙ ap ones x

front_flags : (j n : ℕ) → n ≡ j + 2 → take (n - 1) (0 ∷ ones (suc j)) ≡ 0 ∷ ones (n - 2)
front_flags j n e =
    let x : n - 1 ≡ suc (n - 2) = omega arith in
    rw x (ap (λ (xs : List ℕ). 0 ∷ xs) (take-replicate (n - 2) (suc j) 1 (omega arith)))

-- candidate 0 is termination and each is before the one before it; 0 .. j are not before the effective date, the next is, and all of them are there
pub record Falls (cand : ℕ → Answer ℕ) (e t j : ℕ) : Type 0 where
  pub start : cand 0 ≡ given t
  pub down : (i k a b : ℕ) → i < k → cand i ≡ given a → cand k ≡ given b → b < a
  pub there : (k : ℕ) → k ≤ suc j → cand k ≡ given (day_or (cand k))
  pub low : e ≤ day_or (cand j)
  pub high : day_or (cand (suc j)) < e

module _
    (mask : ℕ) (closed : List ℕ) (pace : Pace) (seed : Seed) (room e t j : ℕ) (f : Falls (candidate true pace seed) e t j)
    (order : e < t) (few : j < last_try) (from : SPAN_FIRST ≤ e) (to : t ≤ SPAN_LAST)
  where
    abbrev cand : ℕ → Answer ℕ
    cand k = candidate true pace seed k

    abbrev line : ℕ → ℕ
    line k = day_or (cand k)

    abbrev turn : ℕ → ℕ → Answer Turn
    turn = turn_of mask closed Unadjusted true pace seed e

    line_0 : line 0 ≡ t
    line_0 = ap day_or f.start

    falls : (i k : ℕ) → i < k → k ≤ suc j → line k < line i
    falls i k l h = f.down i k (line i) (line k) l (f.there i (omega arith)) (f.there k h)

    above : (k : ℕ) → k ≤ j → line j ≤ line k
    above k h = ⊎_elim (λ (q : k ≡ j). at q) (λ (q : k < j). omega (arith, falls k j q (omega arith))) (eq-or-lt_of_le h)
      where
        at : k ≡ j → line j ≤ line k
        at q = rw q (omega arith)

    below : (k : ℕ) → k ≤ j → line k ≤ t
    below k h = ⊎_elim (λ (q : 0 ≡ k). at q) (λ (q : 0 < k). omega (arith, line_0, falls 0 k q (omega arith))) (eq-or-lt_of_le zero-le)
      where
        at : 0 ≡ k → line k ≤ t
        at q = let r : line k ≡ line 0 = ap line (sym q) in omega (arith, line_0)

    span : (k : ℕ) → k ≤ j → InSpan (line k)
    span k h = record { low = omega (arith, above k h, f.low); high = omega (arith, below k h) }

    own_span : InSpan e
    own_span = record { low = from; high = omega arith }

    apart : (k : ℕ) → k < j → line k ≡ line (suc k) → ⊥
    apart k h q = omega (arith, falls k (suc k) (omega arith) (omega arith))

    keeps : (i : ℕ) → i < j → turn (line i) (suc i) ≡ given (keep (line (suc i)))
    keeps i h =
        turn_keeps mask closed pace seed e (line i) (suc i) (line (suc i)) (f.there (suc i) (omega arith)) (omega (arith, above (suc i) h, f.low)) (span i (omega arith)) (span (suc i) h) (apart i h)

    stops : turn (line j) (suc j) ≡ given past
    stops = turn_ends mask closed pace seed e (line j) (suc j) (line (suc j)) (f.there (suc j) (omega arith)) f.high

    -- ---- the loop, and the effective date behind it
    abbrev built : Answer Made
    built = from_termination mask closed pace seed room e t

    abbrev made : ℕ → Lists → Made
    made tries l = made_back tries t l

    is_through : built ≡ ended.through mask closed room t e turn made
    unfolding from_termination
    is_through = refl

    over : room ≤ j → built ≡ refused ROOM
    over h = is_through ∙ ended.over mask closed room t e turn made line j line_0 keeps stops few (span j (omega arith)) own_span h

    on_met : line j ≡ e → j < room → built ≡ given (made (suc j) (linked line j))
    on_met q h = is_through ∙ ended.met mask closed room t e turn made line j line_0 keeps stops few (span j (omega arith)) own_span q h

    module _ (q : e < line j) where
      other : line j ≡ e → ⊥
      other h = omega arith

      on_unmet : suc j < room → built ≡ given (made (suc j) (onto e 0 (linked line j)))
      on_unmet h = is_through ∙ ended.unmet mask closed room t e turn made line j line_0 keeps stops few (span j (omega arith)) own_span other h

      on_full : room ≤ suc j → built ≡ refused ROOM
      on_full h = is_through ∙ ended.full mask closed room t e turn made line j line_0 keeps stops few (span j (omega arith)) own_span other h

    -- what is after the effective date and a candidate is in the chain
    far : (k d : ℕ) → cand k ≡ given d → j < k → d < e
    far k d c h = ⊎_elim at (λ (q : suc j < k). omega (arith, f.high, f.down (suc j) k (line (suc j)) d q (f.there (suc j) (omega arith)) c)) (eq-or-lt_of_le h)
      where
        at : suc j ≡ k → d < e
        at q = let p : line (suc j) ≡ d = ap line q ∙ ap day_or c in omega (arith, f.high)

    in_list : (d : ℕ) → e < d → (k : ℕ) × (cand k ≡ given d) → d ∈ chain line j
    in_list d h (k, c) = ⊎_elim (λ (q : k ≤ j). subst (λ (x : ℕ). x ∈ chain line j) (ap day_or c) (in_chain line j k q)) (λ (q : j < k). absurd (no (far k d c q))) (le_or_lt k j)
      where
        no : d < e → ⊥
        no g = omega arith

    is_cand : (d : ℕ) → d ∈ chain line j → (k : ℕ) × (k ≤ j) × (cand k ≡ given d)
    is_cand d h = let r = from_chain line j d h in (r.0, r.1, f.there r.0 (omega (arith, r.1)) ∙ ap given (sym r.2))

    no_less : (d : ℕ) → d ∈ chain line j → line j ≤ d
    no_less d h = let r = from_chain line j d h in rw r.2 (above r.0 r.1)

    ups : Ascending (chain line j)
    ups = chain_up line j (λ i k l h. falls i k l (omega arith))

    due : (d : ℕ) → d ∈ chain line j → Due e cand d
    due d h =
        let r = is_cand d h in
        ⊎_elim (λ (q : e ≡ d). inl (sym q)) (λ (q : e < d). inr (q, (r.0, r.2))) (eq-or-lt_of_le (bound d h))
      where
        bound : (d : ℕ) → d ∈ chain line j → e ≤ d
        bound d h = omega (arith, f.low, no_less d h)

    made_same : line j ≡ e → chain line j ≡ due_list cand e j
    unfolding due_list
    made_same q = rw (le-ltb e (line j) (omega arith))

    made_front : e < line j → e ∷ chain line j ≡ due_list cand e j
    unfolding due_list
    made_front q = rw (lt-ltb e (line j) q)

    -- the effective date is the last candidate kept
    met : line j ≡ e → GeneratedBack e t room cand j built
    met q = record {
      dates = chain line j;
      made = made_same q;
      lists = record { only = due; all = λ d. ⊎_elim (λ (p : d ≡ e). own d p) (λ (p : (e < d) × ((k : ℕ) × (cand k ≡ given d))). in_list d p.0 p.1); ascends = ups };
      flag = 1;
      count = omega (arith, chain_length line j);
      first_flag = inl (refl, (j, f.there j (omega arith) ∙ ap given q));
      accepted = λ h. on_met q (omega (arith, chain_length line j)) ∙ ap (λ (x : List ℕ). given (record { dates = chain line j; flags = x; tries = suc j; seed = t })) flags;
      refuses = λ h. over (omega (arith, chain_length line j));
    }
      where
        own : (d : ℕ) → d ≡ e → d ∈ chain line j
        own d p = subst (λ (x : ℕ). x ∈ chain line j) (q ∙ sym p) (in_chain line j j (omega arith))

        some : 1 ≤ j
        some = ⊎_elim (λ (p : 0 ≡ j). absurd (no p)) (λ (p : 0 < j). p) (eq-or-lt_of_le zero-le)
          where
            no : 0 ≡ j → ⊥
            no p = let x : line j ≡ line 0 = ap line (sym p) in omega (arith, line_0)

        flags : take (length (chain line j) - 1) (ones (suc j)) ≡ 1 ∷ replicate (length (chain line j) - 2) 1
        flags = own_flags j (length (chain line j)) some (omega (arith, chain_length line j))

    -- it is before the last candidate kept, and is put in front
    unmet : e < line j → GeneratedBack e t room cand j built
    unmet q = record {
      dates = e ∷ chain line j;
      made = made_front q;
      lists = record {
        only = λ d. ⊎_elim (λ (p : d ≡ e). inl p) (λ (p : d ∈ chain line j). due d p);
        all = λ d. ⊎_elim (λ (p : d ≡ e). inl p) (λ (p : (e < d) × ((k : ℕ) × (cand k ≡ given d))). inr (in_list d p.0 p.1));
        ascends = (λ d h. omega (arith, q, no_less d h), ups);
      };
      flag = 0;
      count = omega (arith, chain_length line j);
      first_flag = inr (refl, no_candidate);
      accepted = λ h. on_unmet q (omega (arith, chain_length line j)) ∙ ap (λ (x : List ℕ). given (record { dates = e ∷ chain line j; flags = x; tries = suc j; seed = t })) flags;
      refuses = λ h. on_full q (omega (arith, chain_length line j));
    }
      where
        no_candidate : (k : ℕ) → cand k ≡ given e → ⊥
        no_candidate k c = ⊎_elim (λ (p : k ≤ j). let x : line k ≡ e = ap day_or c in omega (arith, above k p)) (λ (p : j < k). omega (arith, far k e c p)) (le_or_lt k j)

        flags : take (length (e ∷ chain line j) - 1) (0 ∷ ones (suc j)) ≡ 0 ∷ replicate (length (e ∷ chain line j) - 2) 1
        flags = front_flags j (length (e ∷ chain line j)) (omega (arith, chain_length line j))

    pub falling : GeneratedBack e t room cand j built
    falling = ⊎_elim (λ (q : e ≡ line j). met (sym q)) (λ (q : e < line j). unmet q) (eq-or-lt_of_le f.low)
