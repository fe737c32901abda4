-- What a forward build generates where its candidates rise and nothing is adjusted: the dates due, over any candidates.
-- Assumes nothing.
use Rattle.std.specs.Prelude.{ℕ, zero, suc, ◌+◌, ◌-◌, ◌≤◌, ◌<◌, ◌≡◌, refl, ◌⊎◌, false, length, get_or, drop, replicate}
use Rattle.std.proofs.Common.{zero-le, sym, ◌∙◌, subst, inl, inr, not-suc-le-zero, eq-or-lt_of_le, zero-add, arith}
use Rattle.std.proofs.Math.Path.{ap}
use Rattle.std.proofs.Math.Logic.{⊎_elim}
use Rattle.std.proofs.lemmas.List.{append-nil}
use mathlib.Core.List.{List, [], ◌∷◌, ◌++◌, reverse, reverse_aux}
use borrow.Author.Tests.{lt-ltb, le-ltb}
use Rattle.std.proofs.Math.ListN.{length-reverse_aux}
use Rattle.refusal.specs.Answer.{Answer, given, refused, then, ROOM}
use Rattle.date.specs.Date.{SPAN_FIRST, SPAN_LAST}
use Rattle.calendar.specs.declared.Convention.TheVariants.{Unadjusted}
use Rattle.steps.specs.declared.Pace.{Pace}
use Rattle.steps.specs.declared.Seed.{Seed}
use Rattle.steps.specs.Candidates.{Turn, past, keep, candidate, is_past, turn_of}
use Rattle.steps.specs.Generate.{Lists, Made, nothing, onto, put, put_new, made_forth, last_try, walk}
use Rattle.outcomes.specs.Laws.Span.{le_or_lt, InSpan}
use Rattle.plain.specs.Listed.{◌∈◌, Ascending}
use Rattle.plain.specs.Listed as listed
use Rattle.plain.specs.Laws.Chain.{ones, chain, chain_length, in_chain, from_chain, linked}
use Rattle.plain.specs.Laws.Turns.{candidate_keeps, candidate_ends}
use Rattle.plain.specs.Laws.Ended as ended
use Rattle.plain.specs.Most.{day_or}
use Rattle.plain.specs.Forward.{OneOrMore, DueOn, effective, between, termination}

-- ---- a list turned round: what it has in it, its order, its length
in_left : (xs r : List ℕ) (d : ℕ) → d ∈ r → d ∈ reverse_aux xs r
in_left [] r d h = h
in_left (x ∷ xs) r d h = in_left xs (x ∷ r) d (inr h)

in_turned : (xs r : List ℕ) (d : ℕ) → d ∈ xs → d ∈ reverse_aux xs r
in_turned [] r d h = absurd h
in_turned (x ∷ xs) r d (inl e) = in_left xs (x ∷ r) d (inl e)
in_turned (x ∷ xs) r d (inr h) = in_turned xs (x ∷ r) d h

pub from_turned : (xs r : List ℕ) (d : ℕ) → d ∈ reverse_aux xs r → (d ∈ xs) ⊎ (d ∈ r)
from_turned [] r d h = inr h
from_turned (x ∷ xs) r d h = ⊎_elim (λ (i : d ∈ xs). inl (inr i)) (⊎_elim (λ (e : d ≡ x). inl (inl e)) (λ (i : d ∈ r). inr i)) (from_turned xs (x ∷ r) d h)

turned_up : (line : ℕ → ℕ) (j : ℕ) (r : List ℕ) → ((i k : ℕ) → i < k → k ≤ j → line i < line k) → Ascending r → ((d : ℕ) → d ∈ r → line j < d) → Ascending (reverse_aux (chain line j) r)
turned_up line zero r up a l = (l, a)
turned_up line (suc j) r up a l = turned_up line j (line (suc j) ∷ r) (λ i k h g. up i k h (omega arith)) (l, a) (λ d. ⊎_elim (λ (e : d ≡ line (suc j)). at d e) (λ (h : d ∈ r). omega (arith, l d h, up j (suc j) (omega arith) (omega arith))))
  where
    at : (d : ℕ) → d ≡ line (suc j) → line j < d
    at d e = omega (arith, up j (suc j) (omega arith) (omega arith))

-- by places
at_behind : (xs r : List ℕ) (i : ℕ) → get_or (reverse_aux xs r) (length xs + i) 0 ≡ get_or r i 0
at_behind [] r i = ap (λ (k : ℕ). get_or r k 0) (zero-add i)
at_behind (x ∷ xs) r i =
    let e : suc (length xs) + i ≡ length xs + suc i = omega arith in
    ap (λ (k : ℕ). get_or (reverse_aux xs (x ∷ r)) k 0) e ∙ at_behind xs (x ∷ r) (suc i)

turned_at : (line : ℕ → ℕ) (j i : ℕ) (r : List ℕ) → i ≤ j → get_or (reverse_aux (chain line j) r) i 0 ≡ line i
turned_at line zero zero r h = refl
turned_at line zero (suc i) r h = absurd (not-suc-le-zero h)
turned_at line (suc j) i r h = ⊎_elim at (λ (q : i < suc j). turned_at line j i (line (suc j) ∷ r) (omega arith)) (eq-or-lt_of_le h)
  where
    at : i ≡ suc j → get_or (reverse_aux (chain line j) (line (suc j) ∷ r)) i 0 ≡ line i
    at q =
        let e : i ≡ length (chain line j) + 0 = omega (arith, chain_length line j) in
        ap (λ (k : ℕ). get_or (reverse_aux (chain line j) (line (suc j) ∷ r)) k 0) e ∙ at_behind (chain line j) (line (suc j) ∷ r) 0 ∙ ap line (sym q)

-- ---- the marks turned round
pub one_more : (n : ℕ) (r : List ℕ) → ones n ++ (1 ∷ r) ≡ 1 ∷ (ones n ++ r)
one_more zero r = refl
one_more (suc n) r = ap (λ (xs : List ℕ). 1 ∷ xs) (one_more n r)

ones_turned : (n : ℕ) (r : List ℕ) → reverse_aux (ones n) r ≡ ones n ++ r
ones_turned zero r = refl
ones_turned (suc n) r = ones_turned n (1 ∷ r) ∙ one_more n r

-- the flags of n dates: the last period's mark behind those of the others
own_flags : (j n : ℕ) → 1 ≤ j → n ≡ j + 1 → drop 1 (reverse (ones (suc j))) ≡ ones (n - 2) ++ (1 ∷ [])
own_flags j n h e =
    let x : j ≡ suc (n - 2) = omega arith in
    ap (drop 1) (ones_turned (suc j) []) ∙ append-nil (ones j) ∙ ap ones x ∙ sym (one_more (n - 2) [] ∙ append-nil (ones (suc (n - 2))))

end_flags : (j n : ℕ) → n ≡ j + 2 → drop 1 (reverse (0 ∷ ones (suc j))) ≡ ones (n - 2) ++ (0 ∷ [])
end_flags j n e =
    let x : j ≡ n - 2 = omega arith in
    ap (drop 1) (ones_turned (suc j) (0 ∷ [])) ∙ ap (λ (k : ℕ). ones k ++ (0 ∷ [])) x

-- ---- the whole of a forward build's generating with no anchors
unfoldable pub from_effective : ℕ → List ℕ → Pace → Seed → ℕ → ℕ → ℕ → Answer Made
from_effective mask closed pace seed room e t =
    then (put room e 1 nothing) (λ l.
    then (walk (turn_of mask closed Unadjusted false pace seed t) room last_try 1 l) (λ w.
    then (put_new mask closed Unadjusted room t t 0 w.lists) (λ m.
    given (made_forth w.tries e m))))

-- what is generated where the candidates tried are j + 1
pub record GeneratedOn (e t room : ℕ) (cand : ℕ → Answer ℕ) (j : ℕ) (o : Answer Made) : Type 0 where
  pub dates : List ℕ
  pub lists : listed.ListsAll (DueOn cand e t) dates
  pub places : (i : ℕ) → i ≤ j → get_or dates i 0 ≡ day_or (cand i)
  pub ends : get_or dates (length dates - 1) 0 ≡ t
  pub flag : ℕ
  pub count : length dates + flag ≡ j + 2
  pub last_flag : ((flag ≡ 1) × OneOrMore cand t) ⊎ ((flag ≡ 0) × (OneOrMore cand t → ⊥))
  pub accepted : length dates ≤ room → o ≡ given (record { dates = dates; flags = replicate (length dates - 2) 1 ++ (flag ∷ []); tries = suc j; seed = e })
  pub refuses : room < length dates → o ≡ refused ROOM

-- candidate 0 is the effective date and each is after the one before it; 0 .. j are not after termination, the next is, and all of them are there
pub record Rises (cand : ℕ → Answer ℕ) (e t j : ℕ) : Type 0 where
  pub start : cand 0 ≡ given e
  pub up : (i k a b : ℕ) → i < k → cand i ≡ given a → cand k ≡ given b → a < b
  pub there : (k : ℕ) → k ≤ suc j → cand k ≡ given (day_or (cand k))
  pub high : day_or (cand j) ≤ t
  pub beyond : t < day_or (cand (suc j))

module _
    (mask : ℕ) (closed : List ℕ) (pace : Pace) (seed : Seed) (room e t j : ℕ) (f : Rises (candidate false pace seed) e t j)
    (order : e < t) (few : j < last_try) (from : SPAN_FIRST ≤ e) (to : t ≤ SPAN_LAST)
  where
    abbrev cand : ℕ → Answer ℕ
    cand k = candidate false pace seed k

    abbrev line : ℕ → ℕ
    line k = day_or (cand k)

    abbrev turn : ℕ → ℕ → Answer Turn
    turn = turn_of mask closed Unadjusted false pace seed t

    line_0 : line 0 ≡ e
    line_0 = ap day_or f.start

    rises : (i k : ℕ) → i < k → k ≤ suc j → line i < line k
    rises i k l h = f.up i k (line i) (line k) l (f.there i (omega arith)) (f.there k h)

    below : (k : ℕ) → k ≤ j → line k ≤ line j
    below k h = ⊎_elim (λ (q : k ≡ j). at q) (λ (q : k < j). omega (arith, rises k j q (omega arith))) (eq-or-lt_of_le h)
      where
        at : k ≡ j → line k ≤ line j
        at q = rw q (omega arith)

    above : (k : ℕ) → k ≤ j → e ≤ line k
    above k h = ⊎_elim (λ (q : 0 ≡ k). at q) (λ (q : 0 < k). omega (arith, line_0, rises 0 k q (omega arith))) (eq-or-lt_of_le zero-le)
      where
        at : 0 ≡ k → e ≤ line k
        at q = let r : line k ≡ line 0 = ap line (sym q) in omega (arith, line_0)

    span : (k : ℕ) → k ≤ j → InSpan (line k)
    span k h = record { low = omega (arith, above k h); high = omega (arith, below k h, f.high) }

    last_span : InSpan t
    last_span = record { low = omega arith; high = to }

    apart : (k : ℕ) → k < j → line k ≡ line (suc k) → ⊥
    apart k h q = omega (arith, rises k (suc k) (omega arith) (omega arith))

    keeps : (i : ℕ) → i < j → turn (line i) (suc i) ≡ given (keep (line (suc i)))
    unfolding is_past
    keeps i h =
        candidate_keeps mask closed false pace seed t (line i) (suc i) (line (suc i)) (f.there (suc i) (omega arith)) (le-ltb t (line (suc i)) (omega (arith, below (suc i) h, f.high))) (span i (omega arith)) (span (suc i) h) (apart i h)

    stops : turn (line j) (suc j) ≡ given past
    unfolding is_past
    stops = candidate_ends mask closed false pace seed t (line j) (suc j) (line (suc j)) (f.there (suc j) (omega arith)) (lt-ltb t (line (suc j)) f.beyond)

    -- ---- the loop, and termination behind it
    abbrev built : Answer Made
    built = from_effective mask closed pace seed room e t

    abbrev made : ℕ → Lists → Made
    made tries l = made_forth tries e l

    is_through : built ≡ ended.through mask closed room e t turn made
    unfolding from_effective
    is_through = refl

    over : room ≤ j → built ≡ refused ROOM
    over h = is_through ∙ ended.over mask closed room e t turn made line j line_0 keeps stops few (span j (omega arith)) last_span h

    on_met : line j ≡ t → j < room → built ≡ given (made (suc j) (linked line j))
    on_met q h = is_through ∙ ended.met mask closed room e t turn made line j line_0 keeps stops few (span j (omega arith)) last_span q h

    module _ (q : line j < t) where
      other : line j ≡ t → ⊥
      other h = omega arith

      on_unmet : suc j < room → built ≡ given (made (suc j) (onto t 0 (linked line j)))
      on_unmet h = is_through ∙ ended.unmet mask closed room e t turn made line j line_0 keeps stops few (span j (omega arith)) last_span other h

      on_full : room ≤ suc j → built ≡ refused ROOM
      on_full h = is_through ∙ ended.full mask closed room e t turn made line j line_0 keeps stops few (span j (omega arith)) last_span other h

    -- ---- what is in the list
    far : (k d : ℕ) → cand k ≡ given d → j < k → t < d
    far k d c h = ⊎_elim at (λ (q : suc j < k). omega (arith, f.beyond, f.up (suc j) k (line (suc j)) d q (f.there (suc j) (omega arith)) c)) (eq-or-lt_of_le h)
      where
        at : suc j ≡ k → t < d
        at q = let p : line (suc j) ≡ d = ap line q ∙ ap day_or c in omega (arith, f.beyond)

    in_list : (d : ℕ) → d ≤ t → OneOrMore cand d → d ∈ chain line j
    in_list d h o = ⊎_elim (λ (q : o.count ≤ j). subst (λ (x : ℕ). x ∈ chain line j) (ap day_or o.lies) (in_chain line j o.count q)) (λ (q : j < o.count). absurd (no (far o.count d o.lies q))) (le_or_lt o.count j)
      where
        no : t < d → ⊥
        no g = omega arith

    first_in : (d : ℕ) → d ≡ e → d ∈ chain line j
    first_in d p = subst (λ (x : ℕ). x ∈ chain line j) (line_0 ∙ sym p) (in_chain line j 0 (omega arith))

    due : (d : ℕ) → d ∈ chain line j → DueOn cand e t d
    due d h =
        let r = from_chain line j d h in
        ⊎_elim (λ (q : 0 ≡ r.0). effective (r.2 ∙ ap line (sym q) ∙ line_0)) (λ (q : 0 < r.0). between (later r.0 q r.1 r.2) (not_after r.0 r.1 r.2) (record { count = r.0; some = q; lies = f.there r.0 (omega (arith, r.1)) ∙ ap given (sym r.2) })) (eq-or-lt_of_le zero-le)
      where
        later : (k : ℕ) → 0 < k → k ≤ j → d ≡ line k → e < d
        later k q l p = omega (arith, line_0, rises 0 k q (omega arith))

        not_after : (k : ℕ) → k ≤ j → d ≡ line k → d ≤ t
        not_after k l p = omega (arith, below k l, f.high)

    -- termination is the last candidate kept
    met : line j ≡ t → GeneratedOn e t room cand j built
    met q = record {
      dates = reverse (chain line j);
      lists = record { only = λ d h. ⊎_elim (λ (i : d ∈ chain line j). due d i) (λ (i : ⊥). absurd i) (from_turned (chain line j) [] d h); all = λ d h. in_turned (chain line j) [] d (inside d h); ascends = turned_up line j [] (λ i k l h. rises i k l (omega arith)) tt (λ d h. absurd h) };
      places = λ i h. turned_at line j i [] h;
      ends = let e : length (reverse (chain line j)) - 1 ≡ j = omega (arith, size) in ap (λ (k : ℕ). get_or (reverse (chain line j)) k 0) e ∙ turned_at line j j [] (omega arith) ∙ q;
      flag = 1;
      count = omega (arith, size);
      last_flag = inl (refl, record { count = j; some = some; lies = f.there j (omega arith) ∙ ap given q });
      accepted = λ h. on_met q (omega (arith, size)) ∙ ap (λ (x : List ℕ). given (record { dates = reverse (chain line j); flags = x; tries = suc j; seed = e })) (own_flags j (length (reverse (chain line j))) some (omega (arith, size)));
      refuses = λ h. over (omega (arith, size));
    }
      where
        size : length (reverse (chain line j)) ≡ j + 1
        size = length-reverse_aux (chain line j) [] ∙ omega (arith, chain_length line j)

        last_in : (d : ℕ) → d ≡ t → d ∈ chain line j
        last_in d p = subst (λ (x : ℕ). x ∈ chain line j) (q ∙ sym p) (in_chain line j j (omega arith))

        inside : (d : ℕ) → DueOn cand e t d → d ∈ chain line j
        inside d (effective p) = first_in d p
        inside d (between l h o) = in_list d h o
        inside d (termination p) = last_in d p

        some : 1 ≤ j
        some = ⊎_elim (λ (p : 0 ≡ j). absurd (no p)) (λ (p : 0 < j). p) (eq-or-lt_of_le zero-le)
          where
            no : 0 ≡ j → ⊥
            no p = let x : line j ≡ line 0 = ap line (sym p) in omega (arith, line_0)

    -- it is after the last candidate kept, and is put behind
    unmet : line j < t → GeneratedOn e t room cand j built
    unmet q = record {
      dates = reverse (t ∷ chain line j);
      lists = record { only = λ d h. ⊎_elim (λ (i : d ∈ chain line j). due d i) (⊎_elim (λ (p : d ≡ t). termination p) (λ (i : ⊥). absurd i)) (from_turned (chain line j) (t ∷ []) d h); all = inside; ascends = turned_up line j (t ∷ []) (λ i k l h. rises i k l (omega arith)) (λ d h. absurd h, tt) (λ d. ⊎_elim (λ (p : d ≡ t). at d p) (λ (i : ⊥). absurd i)) };
      places = λ i h. turned_at line j i (t ∷ []) h;
      ends = let e : length (reverse (t ∷ chain line j)) - 1 ≡ length (chain line j) + 0 = omega (arith, size, chain_length line j) in ap (λ (k : ℕ). get_or (reverse (t ∷ chain line j)) k 0) e ∙ at_behind (chain line j) (t ∷ []) 0;
      flag = 0;
      count = omega (arith, size);
      last_flag = inr (refl, no_candidate);
      accepted = λ h. on_unmet q (omega (arith, size)) ∙ ap (λ (x : List ℕ). given (record { dates = reverse (t ∷ chain line j); flags = x; tries = suc j; seed = e })) (end_flags j (length (reverse (t ∷ chain line j))) (omega (arith, size)));
      refuses = λ h. on_full q (omega (arith, size));
    }
      where
        size : length (reverse (t ∷ chain line j)) ≡ j + 2
        size = length-reverse_aux (chain line j) (t ∷ []) ∙ omega (arith, chain_length line j)

        at : (d : ℕ) → d ≡ t → line j < d
        at d p = omega arith

        inside : (d : ℕ) → DueOn cand e t d → d ∈ reverse (t ∷ chain line j)
        inside d (effective p) = in_turned (chain line j) (t ∷ []) d (first_in d p)
        inside d (between l h o) = in_turned (chain line j) (t ∷ []) d (in_list d h o)
        inside d (termination p) = in_left (chain line j) (t ∷ []) d (inl p)

        no_candidate : OneOrMore cand t → ⊥
        no_candidate o = ⊎_elim (λ (p : o.count ≤ j). let x : line o.count ≡ t = ap day_or o.lies in omega (arith, below o.count p)) (λ (p : j < o.count). omega (arith, far o.count t o.lies p)) (le_or_lt o.count j)

    pub rising : GeneratedOn e t room cand j built
    rising = ⊎_elim (λ (q : line j ≡ t). met q) (λ (q : line j < t). unmet q) (eq-or-lt_of_le f.high)
