-- The list owed to a plain request starts with the effective date and ends with termination, and has a flag for each period.
-- Assumes nothing.
use Rattle.std.specs.Prelude.{ℕ, suc, ◌+◌, ◌-◌, ◌/◌, ◌≤◌, ◌<◌, ◌≡◌, refl, List, [], ◌∷◌, length, get_or}
use Rattle.std.proofs.Common.{zero-le, ap, ◌∙◌, sym, inl, inr, ⊎_elim, eq-or-lt_of_le, arith}
use Rattle.std.proofs.lemmas.List.{length-replicate}
use Rattle.refusal.specs.Answer.{given}
use Rattle.steps.specs.declared.Request.{Request}
use Rattle.outcomes.specs.Laws.Span.{le_or_lt}
use Rattle.plain.specs.Listed.{◌∈◌, Ascending, ascending_at, at_in}
use Rattle.plain.specs.Demand.{Plain, Passes, tenors_before, OwedDate, Owed, Flagged, tenor_count, Most}
use Rattle.plain.specs.Most.{day_or}
use Rattle.plain.specs.Laws.Falling.{Falls}
use Rattle.plain.specs.Laws.Walked.{most_is, tenors_fall}

-- ---- the least and the greatest of an ascending list
least_first : (ds : List ℕ) (e : ℕ) → Ascending ds → e ∈ ds → ((d : ℕ) → d ∈ ds → e ≤ d) → get_or ds 0 0 ≡ e
least_first [] e a h l = absurd h
least_first (x ∷ xs) e a (inl h) l = sym h
least_first (x ∷ xs) e a (inr h) l = absurd (no (a.0 e h) (l x (inl refl)))
  where
    no : x < e → e ≤ x → ⊥
    no g i = omega arith

place_of : (ds : List ℕ) (d : ℕ) → d ∈ ds → (i : ℕ) × (i < length ds) × (get_or ds i 0 ≡ d)
place_of [] d h = absurd h
place_of (x ∷ xs) d (inl h) = (0, omega arith, sym h)
place_of (x ∷ xs) d (inr h) = let r = place_of xs d h in (suc r.0, omega (arith, r.1), r.2)

greatest_last : (ds : List ℕ) (t : ℕ) → Ascending ds → t ∈ ds → ((d : ℕ) → d ∈ ds → d ≤ t) → get_or ds (length ds - 1) 0 ≡ t
greatest_last ds t a h g =
    let r = place_of ds t h in
    ⊎_elim
    (λ (q : length ds - 1 ≤ r.0). ap (λ (k : ℕ). get_or ds k 0) (omega (arith, r.1)) ∙ r.2)
    (λ (q : r.0 < length ds - 1). absurd (no r.0 r.1 r.2 q))
    (le_or_lt (length ds - 1) r.0)
  where
    no : (i : ℕ) → i < length ds → get_or ds i 0 ≡ t → i < length ds - 1 → ⊥
    no i l e q = omega (arith, ascending_at ds i (length ds - 1) a q (omega arith), g (get_or ds (length ds - 1) 0) (at_in ds (length ds - 1) (omega arith)))

module _ (q : Request) (closed : List ℕ) (dates flags : ℕ) (p : Plain q) (c : Passes q closed dates flags) where
  not_before : (d : ℕ) → OwedDate q d → q.effective.day ≤ d
  not_before d (inl e) = omega arith
  not_before d (inr h) = omega (arith, h.0)

  abbrev most : (m : ℕ) × Most q m
  most = most_is q p closed dates flags c

  abbrev falls : Falls (tenors_before q) q.effective.day q.termination.day (most.0 / tenor_count q)
  falls = tenors_fall q p closed dates flags c most.0 most.1

  none_later : (k d : ℕ) → tenors_before q k ≡ given d → d ≤ q.termination.day
  none_later k d h = ⊎_elim at (λ (l : 0 < k). omega (arith, falls.down 0 k q.termination.day d l falls.start h)) (eq-or-lt_of_le zero-le)
    where
      at : 0 ≡ k → d ≤ q.termination.day
      at e = let s : q.termination.day ≡ d = ap day_or (sym falls.start ∙ ap (tenors_before q) e ∙ h) in omega arith

  pub not_after : (d : ℕ) → OwedDate q d → d ≤ q.termination.day
  not_after d (inl e) = omega (arith, p.order)
  not_after d (inr h) = none_later h.1.0 d h.1.1

  module _ (ds : List ℕ) (o : Owed q ds) where
    pub starts : get_or ds 0 0 ≡ q.effective.day
    starts = least_first ds q.effective.day o.ascends (o.all q.effective.day (inl refl)) (λ d h. not_before d (o.only d h))

    pub ends : get_or ds (length ds - 1) 0 ≡ q.termination.day
    ends = greatest_last ds q.termination.day o.ascends (o.all q.termination.day (inr (p.order, (0, falls.start)))) (λ d h. not_after d (o.only d h))

    pub two_or_more : 2 ≤ length ds
    two_or_more = ⊎_elim (λ (h : 2 ≤ length ds). h) (λ (h : length ds < 2). absurd (no (omega arith))) (le_or_lt 2 (length ds))
      where
        no : length ds - 1 ≡ 0 → ⊥
        no h = let e : get_or ds (length ds - 1) 0 ≡ get_or ds 0 0 = ap (λ (k : ℕ). get_or ds k 0) h in omega (arith, starts, ends, p.order)

    -- one flag for each period
    pub flag_each : (fs : List ℕ) → Flagged q ds fs → length fs + 1 ≡ length ds
    flag_each fs f = ap (λ (l : List ℕ). length l + 1) f.all_flags ∙ omega (arith, two_or_more, length-replicate {A = ℕ} (length ds - 2) 1)
