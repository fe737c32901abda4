-- What the list of a backward trade shows: the coming date that one division finds, and the flag of the period that it ends.
-- Assumes nothing.
use Rattle.std.specs.Prelude.{ℕ, zero, suc, ◌+◌, ◌-◌, ◌/◌, ◌≤◌, ◌<◌, ◌≡◌, true, List, ◌∷◌, leb, length, get_or, replicate}
use Rattle.std.proofs.Math.Path.{refl, ap}
use Rattle.std.proofs.Common.{sym, ◌∙◌, eq-or-lt_of_le, arith, le-leb, le-ltb, lt-ltb}
use Rattle.std.proofs.Math.Logic.{⊎_elim}
use Rattle.std.proofs.Math.Nat.{sub-zero}
use Rattle.std.proofs.lemmas.Bool.{lt-leb}
use Rattle.std.proofs.lemmas.List.{get_or-replicate}
use Rattle.refusal.specs.Answer.{given}
use Rattle.date.specs.Civil.{pick_n}
use Rattle.date.specs.Date.{in_book}
use Rattle.date.specs.Laws.Moves.{book_from, book_le}
use Rattle.steps.specs.declared.Request.{Request}
use Rattle.steps.specs.Generate.{generate}
use Rattle.steps.specs.Build.{Schedule}
use Rattle.outcomes.specs.Laws.Span.{le_or_lt}
use Rattle.plain.specs.Listed.{one_list, at_in}
use Rattle.plain.specs.Demand.{Plain, Passes, tenor_length, tenors_before, Owed, tenor_count, taken, MostOf, Most, Accepted}
use Rattle.plain.specs.Laws.Chain.{chain, chain_length, chain_at}
use Rattle.plain.specs.Most.{day_or, most_by}
use Rattle.plain.specs.Laws.Falling.{due_list, Falls, GeneratedBack}
use Rattle.plain.specs.Laws.Count.{line_later, counted}
use Rattle.plain.specs.Laws.Tenor.{counts_are}
use Rattle.plain.specs.Laws.Walked.{some_units, line, tenors_fall, generated}
use Rattle.plain.proofs.Laws.Proved.{owed_once, most_once}
use Rattle.plain.proofs.Laws.Shape.{not_after}
use Rattle.plain.specs.Laws.Mosts.{most_by_lem}
use Rattle.plain.proofs.Laws.Formula.{count_is}
use Rattle.outcomes.specs.NoLimit.{NoLimit}
use Rattle.plain.proofs.Laws.Lifted.{no_limit_back}
use Rattle.coming.specs.Coming.{begins, comes, none_comes, between_or, flag_by, comes_backward}
use Rattle.coming.specs.Shows.{Shows, at_first, at_later, at_none, by_cases}

module _
    (q : Request) (closed : List ℕ) (dates flags : ℕ) (p : Plain q) (c : Passes q closed dates flags)
    (ds : List ℕ) (o : Owed q ds) (m : ℕ) (w : Most q m) (s : Schedule) (a : Accepted q ds m s) (x : ℕ)
  where
    abbrev e : ℕ
    e = q.effective.day

    abbrev t : ℕ
    t = q.termination.day

    abbrev j : ℕ
    j = m / tenor_count q

    abbrev at : ℕ → ℕ
    at k = day_or (tenors_before q k)

    abbrev g : GeneratedBack e t 0 (tenors_before q) j (generate q closed 0)
    g = generated q p closed dates flags c m w 0

    abbrev falls : Falls (tenors_before q) e t j
    falls = tenors_fall q p closed dates flags c m w

    its_dates : s.dates ≡ due_list (tenors_before q) e j
    its_dates = a.dates ∙ one_list o g.lists ∙ g.made

    first_is : length ds + a.flags.first ≡ j + 2
    first_is = count_is q closed dates flags p c m w ds o a.flags.first a.flags.first_flag

    same_length : length s.dates ≡ length ds
    same_length = ap length a.dates

    -- the effective date is a candidate, or stands in front of them
    if_met : e ≡ at j → s.dates ≡ chain at j
    unfolding due_list
    if_met h = its_dates ∙ rw (le-ltb e (at j) (omega arith)) refl

    if_unmet : e < at j → s.dates ≡ e ∷ chain at j
    unfolding due_list
    if_unmet h = its_dates ∙ rw (lt-ltb e (at j) h) refl

    -- ---- before effective, and from termination on
    coming_first : x < e → Shows s x (begins e)
    coming_first h = ⊎_elim (λ (z : e ≡ at j). met z) (λ (z : e < at j). unmet z) (eq-or-lt_of_le falls.low)
      where
        met : e ≡ at j → Shows s x (begins e)
        met z =
            let d = if_met z in
            let y : get_or s.dates 0 0 ≡ e = ap (λ (l : List ℕ). get_or l 0 0) d ∙ chain_at at j 0 (omega arith) ∙ ap at (sub-zero j) ∙ sym z in
            at_first e (record { in_list = (let n : length s.dates ≡ length (chain at j) = ap length d in omega (arith, chain_length at j)); after = omega arith; before = λ k l. let bad : ⊥ = omega arith in absurd bad }) y

        unmet : e < at j → Shows s x (begins e)
        unmet z =
            let d = if_unmet z in
            let y : get_or s.dates 0 0 ≡ e = ap (λ (l : List ℕ). get_or l 0 0) d in
            at_first e (record { in_list = (let n : length s.dates ≡ suc (length (chain at j)) = ap length d in omega arith); after = omega arith; before = λ k l. let bad : ⊥ = omega arith in absurd bad }) y

    coming_none : t ≤ x → Shows s x none_comes
    coming_none h = at_none all
      where
        all : (k : ℕ) → k < length s.dates → get_or s.dates k 0 ≤ x
        all k l =
            let z : get_or s.dates k 0 ≡ get_or ds k 0 = ap (λ (r : List ℕ). get_or r k 0) a.dates in
            omega (arith, not_after q closed dates flags p c (get_or ds k 0) (o.only (get_or ds k 0) (at_in ds k (omega (arith, same_length)))))

    -- ---- between them: as many whole tenors before termination as keep after x
    module _ (from : e ≤ x) (to : x < t) (mx : ℕ) (v : MostOf (taken q) (x + 1) mx) where
      abbrev i : ℕ
      i = mx / tenor_count q

      to_x : Falls (tenors_before q) (x + 1) t i
      to_x = counted (taken q) (x + 1) t (tenor_count q) (some_units q p) (omega arith) (line_later (taken q) e t (tenor_count q) (x + 1) (omega arith) (line q p closed dates flags c)) mx v (tenors_before q) (counts_are (tenor_length q) q.tenor.unit t)

      -- the candidates before it do not keep after x
      passes : (k : ℕ) → i < k → k ≤ j → at k ≤ x
      passes k h l = ⊎_elim (λ (z : suc i ≡ k). here z) (λ (z : suc i < k). omega (arith, to_x.high, falls.down (suc i) k (at (suc i)) (at k) z (falls.there (suc i) (omega arith)) (falls.there k (omega arith)))) (eq-or-lt_of_le h)
        where
          here : suc i ≡ k → at k ≤ x
          here z = let y : at k ≡ at (suc i) = ap at (sym z) in omega (arith, to_x.high)

      few : i ≤ j
      few = ⊎_elim (λ (h : i ≤ j). h) (λ (h : j < i). absurd (no h)) (le_or_lt i j)
        where
          no : j < i → ⊥
          no h = ⊎_elim (λ (z : suc j ≡ i). let y : at (suc j) ≡ at i = ap at z in omega (arith, falls.high, to_x.low)) (λ (z : suc j < i). omega (arith, falls.high, to_x.low, to_x.down (suc j) i (at (suc j)) (at i) z (to_x.there (suc j) (omega arith)) (to_x.there i (omega arith)))) (eq-or-lt_of_le h)

      next : tenors_before q (suc i) ≡ given (at (suc i))
      next = to_x.there (suc i) (omega arith)

      -- effective is a candidate: all periods are regular
      met : e ≡ at j → i < j → Shows s x (comes (at i) 1)
      met z h =
          let d = if_met z in
          let n : length s.dates ≡ length (chain at j) = ap length d in
          let r : suc (j - i - 1) ≡ j - i = omega arith in
          let r' : j - (j - i) ≡ i = omega arith in
          let y : get_or s.dates (suc (j - i - 1)) 0 ≡ at i = ap (λ (l : List ℕ). get_or l (suc (j - i - 1)) 0) d ∙ ap (λ (k : ℕ). get_or (chain at j) k 0) r ∙ chain_at at j (j - i) (omega arith) ∙ ap at r' in
          at_later (j - i - 1) (at i) 1 (record { in_list = omega (arith, chain_length at j); after = omega (arith, to_x.low); before = before d }) y (flag n)
        where
          before : s.dates ≡ chain at j → (k : ℕ) → k < suc (j - i - 1) → get_or s.dates k 0 ≤ x
          before d k l =
              let u : get_or s.dates k 0 ≡ at (j - k) = ap (λ (r : List ℕ). get_or r k 0) d ∙ chain_at at j k (omega arith) in
              omega (arith, passes (j - k) (omega arith) (omega arith))

          flag : length s.dates ≡ length (chain at j) → get_or s.flags (j - i - 1) 0 ≡ 1
          flag n =
              let one : a.flags.first ≡ 1 = omega (arith, first_is, same_length, chain_length at j) in
              ap (λ (l : List ℕ). get_or l (j - i - 1) 0) (a.flags.all_flags ∙ ap (λ (y : ℕ). y ∷ replicate (length ds - 2) 1) one) ∙ get_or-replicate (suc (length ds - 2)) (j - i - 1) 1 0 (omega (arith, same_length, chain_length at j))

      -- it stands in front of them: the first period is irregular
      unmet : e < at j → Shows s x (comes (at i) (pick_n (leb e (at (suc i))) 1 0))
      unmet z =
          let d = if_unmet z in
          let n : length s.dates ≡ suc (length (chain at j)) = ap length d in
          let r' : j - (j - i) ≡ i = omega (arith, few) in
          let y : get_or s.dates (suc (j - i)) 0 ≡ at i = ap (λ (l : List ℕ). get_or l (suc (j - i)) 0) d ∙ chain_at at j (j - i) (omega arith) ∙ ap at r' in
          at_later (j - i) (at i) _ (record { in_list = omega (arith, chain_length at j); after = omega (arith, to_x.low); before = before d }) y (flag n)
        where
          before : s.dates ≡ e ∷ chain at j → (k : ℕ) → k < suc (j - i) → get_or s.dates k 0 ≤ x
          before d zero l = let u : get_or s.dates 0 0 ≡ e = ap (λ (r : List ℕ). get_or r 0 0) d in omega arith
          before d (suc k) l =
              let u : get_or s.dates (suc k) 0 ≡ at (j - k) = ap (λ (r : List ℕ). get_or r (suc k) 0) d ∙ chain_at at j k (omega arith) in
              omega (arith, passes (j - k) (omega (arith, few)) (omega arith))

          flag : length s.dates ≡ suc (length (chain at j)) → get_or s.flags (j - i) 0 ≡ pick_n (leb e (at (suc i))) 1 0
          flag n = ⊎_elim last rest (eq-or-lt_of_le few)
            where
              none : a.flags.first ≡ 0
              none = omega (arith, first_is, same_length, chain_length at j)

              its : s.flags ≡ 0 ∷ replicate (length ds - 2) 1
              its = a.flags.all_flags ∙ ap (λ (y : ℕ). y ∷ replicate (length ds - 2) 1) none

              last : i ≡ j → get_or s.flags (j - i) 0 ≡ pick_n (leb e (at (suc i))) 1 0
              last y =
                  let u : j - i ≡ 0 = omega arith in
                  let b : at (suc i) ≡ at (suc j) = ap (λ (k : ℕ). at (suc k)) y in
                  rw (lt-leb e (at (suc i)) (omega (arith, falls.high))) (ap (λ (k : ℕ). get_or s.flags k 0) u ∙ ap (λ (l : List ℕ). get_or l 0 0) its)

              rest : i < j → get_or s.flags (j - i) 0 ≡ pick_n (leb e (at (suc i))) 1 0
              rest y =
                  let u : j - i ≡ suc (j - i - 1) = omega arith in
                  rw (le-leb e (at (suc i)) (low y)) (ap (λ (k : ℕ). get_or s.flags k 0) u ∙ ap (λ (l : List ℕ). get_or l (suc (j - i - 1)) 0) its ∙ get_or-replicate (length ds - 2) (j - i - 1) 1 0 (omega (arith, same_length, chain_length at j)))
                where
                  low : i < j → e ≤ at (suc i)
                  low y = ⊎_elim (λ (b : suc i ≡ j). let f : at (suc i) ≡ at j = ap at b in omega (arith, falls.low)) (λ (b : suc i < j). omega (arith, falls.low, falls.down (suc i) j (at (suc i)) (at j) b (falls.there (suc i) (omega arith)) (falls.there j (omega arith)))) (eq-or-lt_of_le y)

      coming_next : Shows s x (comes (day_or (tenors_before q (mx / tenor_count q))) (flag_by (tenors_before q (suc (mx / tenor_count q))) e))
      unfolding flag_by
      coming_next = rw next (⊎_elim by_met unmet (eq-or-lt_of_le falls.low))
        where
          by_met : e ≡ at j → Shows s x (comes (at i) (pick_n (leb e (at (suc i))) 1 0))
          by_met z = ⊎_elim (λ (y : i ≡ j). absurd (no y)) (λ (y : i < j). rw (le-leb e (at (suc i)) (low y)) (met z y)) (eq-or-lt_of_le few)
            where
              no : i ≡ j → ⊥
              no y = let b : at i ≡ at j = ap at y in omega (arith, to_x.low)

              low : i < j → e ≤ at (suc i)
              low y = ⊎_elim (λ (b : suc i ≡ j). let f : at (suc i) ≡ at j = ap at b in omega (arith, falls.low)) (λ (b : suc i < j). omega (arith, falls.low, falls.down (suc i) j (at (suc i)) (at j) b (falls.there (suc i) (omega arith)) (falls.there j (omega arith)))) (eq-or-lt_of_le y)

-- ---- so of the steps with no room limit: they give a schedule, which shows it
pub shown_backward : (q : Request) (closed : List ℕ) (dates flags : ℕ) → Plain q → Passes q closed dates flags → (x : ℕ) → (s : Schedule) × NoLimit q closed (given s) × Shows s x (between_or q x (comes_backward q x))
unfolding comes_backward in_book
shown_backward q closed dates flags p c x =
    let o = owed_once q closed dates flags p c in
    let m = most_once q closed dates flags p c in
    let r = no_limit_back q closed dates flags p c o.0 o.1 m.0 m.1 in (
      r.0,
      r.1,
      by_cases q r.0 x _
          (λ h. coming_first q closed dates flags p c o.0 o.1 m.0 m.1 r.0 r.2 x h)
          (λ h. coming_none q closed dates flags p c o.0 o.1 m.0 m.1 r.0 r.2 x h)
          (λ h i. coming_next q closed dates flags p c o.0 o.1 m.0 m.1 r.0 r.2 x h i _ (most h i)),
    )
  where
    next_booked : q.effective.day ≤ x → x < q.termination.day → in_book (x + 1) ≡ true
    next_booked h i = rw (le-leb 693961 (x + 1) (omega (arith, book_from q.effective.day c.effective_in_book)), le-leb (x + 1) 803168 (omega (arith, book_le q.termination.day c.termination_in_book))) refl

    most : q.effective.day ≤ x → x < q.termination.day → MostOf (taken q) (x + 1) (most_by q.tenor.unit (x + 1) q.termination.day)
    most h i = most_by_lem (x + 1) q.termination.day (next_booked h i) (omega arith) c.termination_in_book q.tenor.unit
