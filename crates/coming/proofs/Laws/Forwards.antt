-- What the list of a forward trade shows: the coming date that one division finds, and the flag of the period that it ends.
-- Apart from Backwards, and no plainer as one: there the list is read from its far end and its first flag is apart, here it is given by places and its last one is.
-- Assumes nothing.
use Rattle.std.specs.Prelude.{ℕ, suc, ◌-◌, ◌/◌, ◌≤◌, ◌<◌, ◌≡◌, ◌⊎◌, true, false, List, [], ◌∷◌, ◌++◌, length, get_or, replicate}
use Rattle.std.proofs.Math.Path.{ap}
use Rattle.std.proofs.Common.{sym, ◌∙◌, inl, inr, eq-or-lt_of_le, arith}
use Rattle.std.proofs.Math.Logic.{⊎_elim}
use Rattle.std.proofs.lemmas.List.{get_or-replicate, get_or_append_left, get_or-append_right, length-replicate}
use borrow.Author.Tests.{le-leb, lt-leb}
use Rattle.refusal.specs.Answer.{given}
use Rattle.date.specs.Date.{in_book}
use Rattle.date.specs.Laws.Moves.{book_le}
use Rattle.steps.specs.declared.Request.{Request}
use Rattle.steps.specs.Generate.{generate}
use Rattle.steps.specs.Build.{Schedule}
use Rattle.outcomes.specs.Laws.Span.{le_or_lt}
use Rattle.plain.specs.Listed.{one_list, at_in}
use Rattle.plain.specs.Demand.{Passes, tenor_length, tenor_count}
use Rattle.plain.specs.Most.{day_or}
use Rattle.plain.specs.Forward.{PlainForward, DueOn, effective, between, termination, tenors_after, LiesAfter, OwedOn, LastFlag, regular, irregular, added, MostAdded, MostOn, AcceptedOn}
use Rattle.plain.proofs.Laws.Rising.{Rises, GeneratedOn}
use Rattle.plain.proofs.Laws.Mirror.{Climb, counted_on}
use Rattle.outcomes.specs.NoLimit.{NoLimit}
use Rattle.plain.proofs.Laws.MostOn.{most_on_sum}
use Rattle.plain.specs.Laws.Tenor.{counts_by}
use Rattle.coming.specs.Coming.{begins, comes, none_comes, between_or, on_or, comes_forward}
use Rattle.coming.specs.Shows.{Shows, at_first, at_later, at_none, by_cases}
use Rattle.plain.proofs.Laws.Onward.{some_units, climb, tenors_rise, generated_on}
use Rattle.plain.proofs.Laws.ForwardProved.{no_limit_on, owed_on_once, most_on_once}

-- ---- flags by places
flag_in : (n last i : ℕ) → i < n → get_or (replicate n 1 ++ (last ∷ [])) i 0 ≡ 1
flag_in n last i h = get_or_append_left (replicate n 1) (last ∷ []) 0 i (omega (arith, length-replicate {A = ℕ} n 1)) ∙ get_or-replicate n i 1 0 h

flag_end : (n last : ℕ) → get_or (replicate n 1 ++ (last ∷ [])) n 0 ≡ last
flag_end n last =
    let here : n - n ≡ 0 = omega arith in
    get_or-append_right (replicate n 1) (last ∷ []) n n 0 (length-replicate {A = ℕ} n 1) (omega arith) ∙ ap (λ (i : ℕ). get_or (last ∷ []) i 0) here

module _
    (q : Request) (closed : List ℕ) (dates flags : ℕ) (p : PlainForward q) (c : Passes q closed dates flags)
    (ds : List ℕ) (o : OwedOn q ds) (m : ℕ) (w : MostOn q m) (s : Schedule) (a : AcceptedOn q ds m s) (x : ℕ)
  where
    abbrev e : ℕ
    e = q.effective.day

    abbrev t : ℕ
    t = q.termination.day

    abbrev j : ℕ
    j = m / tenor_count q

    abbrev line : ℕ → ℕ
    line k = day_or (tenors_after q k)

    abbrev g : GeneratedOn e t 0 (tenors_after q) j (generate q closed 0)
    g = generated_on q p closed dates flags c m w 0

    abbrev rises : Rises (tenors_after q) e t j
    rises = tenors_rise q p closed dates flags c m w

    its_dates : s.dates ≡ g.dates
    its_dates = a.dates ∙ one_list o g.lists

    at_place : (i : ℕ) → i ≤ j → get_or s.dates i 0 ≡ line i
    at_place i h = ap (λ (l : List ℕ). get_or l i 0) its_dates ∙ g.places i h

    long : length s.dates ≡ length g.dates
    long = ap length its_dates

    ends_at : get_or s.dates (length g.dates - 1) 0 ≡ t
    ends_at = ap (λ (l : List ℕ). get_or l (length g.dates - 1) 0) its_dates ∙ g.ends

    last_same : a.flags.last ≡ g.flag
    last_same = by a.flags.last_flag g.last_flag
      where
        by : LastFlag q a.flags.last → ((g.flag ≡ 1) × LiesAfter q t) ⊎ ((g.flag ≡ 0) × (LiesAfter q t → ⊥)) → a.flags.last ≡ g.flag
        by (regular h l) (inl r) = h ∙ sym r.0
        by (regular h l) (inr r) = absurd (r.1 l)
        by (irregular h l) (inl r) = absurd (l r.1)
        by (irregular h l) (inr r) = h ∙ sym r.0

    its_flags : s.flags ≡ replicate (length g.dates - 2) 1 ++ (g.flag ∷ [])
    its_flags =
        let n : length ds ≡ length g.dates = ap length (one_list o g.lists) in
        a.flags.all_flags ∙ (λ i. replicate (n i - 2) 1 ++ (last_same i ∷ []))

    -- ---- before effective, and from termination on
    coming_first : x < e → Shows s x (begins e)
    coming_first h =
        let z : get_or s.dates 0 0 ≡ e = at_place 0 (omega arith) ∙ ap day_or rises.start in
        at_first e (record { in_list = some; after = omega arith; before = λ k l. let bad : ⊥ = omega arith in absurd bad }) z
      where
        some : 0 < length s.dates
        some = ⊎_elim (λ (r : (g.flag ≡ 1) × LiesAfter q t). omega (arith, long, g.count, r.0)) (λ (r : (g.flag ≡ 0) × (LiesAfter q t → ⊥)). omega (arith, long, g.count, r.0)) g.last_flag

    not_after : (d : ℕ) → DueOn (tenors_after q) e t d → d ≤ t
    not_after d (effective h) = omega (arith, p.order)
    not_after d (between l h r) = h
    not_after d (termination h) = omega arith

    coming_none : t ≤ x → Shows s x none_comes
    coming_none h = at_none (λ k l. all k (omega (arith, long)))
      where
        all : (k : ℕ) → k < length g.dates → get_or s.dates k 0 ≤ x
        all k l = let z : get_or s.dates k 0 ≡ get_or g.dates k 0 = ap (λ (r : List ℕ). get_or r k 0) its_dates in omega (arith, not_after (get_or g.dates k 0) (g.lists.only (get_or g.dates k 0) (at_in g.dates k l)))

    -- ---- between them
    module _ (from : e ≤ x) (to : x < t) (mx : ℕ) (v : MostAdded (added q) x mx) where
      abbrev i : ℕ
      i = mx / tenor_count q

      upto : Climb (added q) e x (tenor_count q)
      upto =
          let k = climb q p closed dates flags c in
          record {
            start = k.start;
            up = k.up;
            near = λ n d y h l r. k.near n d y h (omega arith) r;
            few = λ n d h l. k.few n d h (omega arith);
            span = k.span;
          }

      to_x : Rises (tenors_after q) e x i
      to_x = counted_on (added q) e x (tenor_count q) (some_units q p) from (omega (arith, book_le t c.termination_in_book)) upto mx v (tenors_after q) (counts_by false (tenor_length q) q.tenor.unit e)

      keeps : (k : ℕ) → k ≤ i → line k ≤ x
      keeps k h = ⊎_elim (λ (z : k ≡ i). at z) (λ (l : k < i). omega (arith, to_x.high, to_x.up k i (line k) (line i) l (to_x.there k (omega arith)) (to_x.there i (omega arith)))) (eq-or-lt_of_le h)
        where
          at : k ≡ i → line k ≤ x
          at z = let y : line k ≡ line i = ap line z in omega (arith, to_x.high)

      no_more : i ≤ j
      no_more = ⊎_elim (λ (h : i ≤ j). h) (λ (h : j < i). absurd (no (keeps (suc j) h))) (le_or_lt i j)
        where
          no : line (suc j) ≤ x → ⊥
          no h = omega (arith, rises.beyond)

      before : (k : ℕ) → k < suc i → get_or s.dates k 0 ≤ x
      before k h = omega (arith, at_place k (omega (arith, no_more)), keeps k (omega arith))

      next : tenors_after q (suc i) ≡ given (line (suc i))
      next = to_x.there (suc i) (omega arith)

      -- one tenor more keeps to termination
      on_grid : i < j → Shows s x (comes (line (suc i)) 1)
      on_grid h =
          let z = at_place (suc i) h in
          at_later i (line (suc i)) 1 (record { in_list = ⊎_elim (λ (r : (g.flag ≡ 1) × LiesAfter q t). omega (arith, long, g.count, r.0)) (λ (r : (g.flag ≡ 0) × (LiesAfter q t → ⊥)). omega (arith, long, g.count, r.0)) g.last_flag; after = omega (arith, to_x.beyond); before = before }) z
          (ap (λ (l : List ℕ). get_or l i 0) its_flags ∙ ⊎_elim reg irr g.last_flag)
        where
          reg : (g.flag ≡ 1) × LiesAfter q t → get_or (replicate (length g.dates - 2) 1 ++ (g.flag ∷ [])) i 0 ≡ 1
          reg r = ⊎_elim (λ (l : length g.dates - 2 ≤ i). let y : i ≡ length g.dates - 2 = omega (arith, g.count, r.0) in ap (λ (k : ℕ). get_or (replicate (length g.dates - 2) 1 ++ (g.flag ∷ [])) k 0) y ∙ flag_end (length g.dates - 2) g.flag ∙ r.0) (λ (l : i < length g.dates - 2). flag_in (length g.dates - 2) g.flag i l) (le_or_lt (length g.dates - 2) i)

          irr : (g.flag ≡ 0) × (LiesAfter q t → ⊥) → get_or (replicate (length g.dates - 2) 1 ++ (g.flag ∷ [])) i 0 ≡ 1
          irr r = flag_in (length g.dates - 2) g.flag i (omega (arith, g.count, r.0))

      -- it does not: termination is next, and irregular
      off_grid : i ≡ j → Shows s x (comes t 0)
      off_grid z = ⊎_elim (λ (r : (g.flag ≡ 1) × LiesAfter q t). absurd (no r.0)) (λ (r : (g.flag ≡ 0) × (LiesAfter q t → ⊥)). yes r.0) g.last_flag
        where
          no : g.flag ≡ 1 → ⊥
          no r =
              let y : length g.dates - 1 ≡ j = omega (arith, g.count) in
              let u : get_or s.dates j 0 ≡ t = ap (λ (k : ℕ). get_or s.dates k 0) (sym y) ∙ ends_at in
              omega (arith, at_place j (omega arith), keeps j (omega arith))

          end : i ≡ length g.dates - 2 → get_or (replicate (length g.dates - 2) 1 ++ (g.flag ∷ [])) i 0 ≡ g.flag
          end f = ap (λ (k : ℕ). get_or (replicate (length g.dates - 2) 1 ++ (g.flag ∷ [])) k 0) f ∙ flag_end (length g.dates - 2) g.flag

          yes : g.flag ≡ 0 → Shows s x (comes t 0)
          yes r =
              let y : length g.dates - 1 ≡ suc i = omega (arith, g.count) in
              let u : get_or s.dates (suc i) 0 ≡ t = ap (λ (k : ℕ). get_or s.dates k 0) (sym y) ∙ ends_at in
              let f : i ≡ length g.dates - 2 = omega (arith, g.count) in
              at_later i t 0 (record { in_list = omega (arith, long, g.count); after = omega arith; before = before }) u (ap (λ (l : List ℕ). get_or l i 0) its_flags ∙ end f ∙ r)

      coming_next : Shows s x (on_or (tenors_after q (suc (mx / tenor_count q))) t)
      unfolding on_or
      coming_next = ⊎_elim off in_grid (eq-or-lt_of_le no_more)
        where
          off : i ≡ j → Shows s x (on_or (tenors_after q (suc i)) t)
          off z = let y : line (suc i) ≡ line (suc j) = ap (λ (k : ℕ). line (suc k)) z in rw (next, lt-leb (line (suc i)) t (omega (arith, rises.beyond))) (off_grid z)

          in_grid : i < j → Shows s x (on_or (tenors_after q (suc i)) t)
          in_grid h = rw (next, le-leb (line (suc i)) t (kept h)) (on_grid h)
            where
              kept : i < j → line (suc i) ≤ t
              kept h = ⊎_elim (λ (z : suc i ≡ j). let y : line (suc i) ≡ line j = ap line z in omega (arith, rises.high)) (λ (l : suc i < j). omega (arith, rises.high, rises.up (suc i) j (line (suc i)) (line j) l (rises.there (suc i) (omega arith)) (rises.there j (omega arith)))) (eq-or-lt_of_le h)

-- ---- so of the steps with no room limit: they give a schedule, which shows it
pub shown_forward : (q : Request) (closed : List ℕ) (dates flags : ℕ) → PlainForward q → Passes q closed dates flags → (x : ℕ) → in_book x ≡ true → (s : Schedule) × NoLimit q closed (given s) × Shows s x (between_or q x (comes_forward q x))
unfolding comes_forward
shown_forward q closed dates flags p c x b =
    let o = owed_on_once q closed dates flags p c in
    let m = most_on_once q closed dates flags p c in
    let r = no_limit_on q closed dates flags p c o.0 o.1 m.0 m.1 in (
      r.0,
      r.1,
      by_cases q r.0 x _
          (λ h. coming_first q closed dates flags p c o.0 o.1 m.0 m.1 r.0 r.2 x h)
          (λ h. coming_none q closed dates flags p c o.0 o.1 m.0 m.1 r.0 r.2 x h)
          (λ h i. coming_next q closed dates flags p c o.0 o.1 m.0 m.1 r.0 r.2 x h i _ (most_on_sum q.effective.day x c.effective_in_book h b q.tenor.unit)),
    )

-- ---- from termination back: Backwards
