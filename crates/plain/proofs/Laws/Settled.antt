-- Demand 3 settles the outcome, and wrong outcomes do not meet it.
-- Assumes nothing.
use Rattle.std.specs.Prelude.{ℕ, ◌+◌, ◌-◌, ◌/◌, ◌≤◌, min, ◌≡◌, refl, List, ◌∷◌, length, replicate}
use Rattle.std.proofs.Common.{ap, ◌∙◌, sym, subst, ⊎_elim, arith}
use Rattle.refusal.specs.Answer.{Answer, given, refused, ROOM}
use Rattle.refusal.specs.Laws.Answers.{never_both, one_given}
use Rattle.steps.specs.declared.Request.{Request}
use Rattle.steps.specs.Build.{Schedule}
use Rattle.plain.specs.Listed.{one_list}
use Rattle.plain.specs.Demand.{Plain, Passes, Owed, FirstFlag, regular, irregular, Flagged, tenor_count, Most, TooLong, Accepted, Kept}
use Rattle.plain.specs.Laws.Walked.{most_only}
use Rattle.plain.proofs.Laws.Proved.{one_of, over_is}

pub same_first : (q : Request) (a b : ℕ) → FirstFlag q a → FirstFlag q b → a ≡ b
same_first q a b (regular e l) (regular e' l') = e ∙ sym e'
same_first q a b (regular e l) (irregular e' n) = absurd (n l)
same_first q a b (irregular e n) (regular e' l) = absurd (n l)
same_first q a b (irregular e n) (irregular e' n') = e ∙ sym e'

same_flags : (q : Request) (ds a b : List ℕ) → Flagged q ds a → Flagged q ds b → a ≡ b
same_flags q ds a b f g =
    f.all_flags
    ∙ ap (λ (x : ℕ). x ∷ replicate (length ds - 2) 1) (same_first q f.first g.first f.first_flag g.first_flag)
    ∙ sym g.all_flags

same_schedule : (q : Request) (ds : List ℕ) (m : ℕ) (s s' : Schedule) → Accepted q ds m s → Accepted q ds m s' → s ≡ s'
same_schedule q ds m s s' a b =
    let d : s.dates ≡ s'.dates = a.dates ∙ sym b.dates in
    let f : s.flags ≡ s'.flags = same_flags q ds s.flags s'.flags a.flags b.flags in
    let t : s.tries ≡ s'.tries = a.tries ∙ sym b.tries in
    λ i. record { dates = d i; flags = f i; tries = t i }

fits_not : (room : ℕ) (ds : List ℕ) → length ds ≤ min room 4096 → TooLong room ds → ⊥
fits_not room ds h t = omega (arith, over_is room ds t)

kept_one : (q : Request) (room : ℕ) (ds : List ℕ) (m : ℕ) (o o' : Answer Schedule) → Kept q room ds m o → Kept q room ds m o' → o ≡ o'
kept_one q room ds m o o' a b =
    ⊎_elim
    (λ (h : length ds ≤ min room 4096).
    let s = a.accepted_else (fits_not room ds h) in
    let s' = b.accepted_else (fits_not room ds h) in
    s.1 ∙ ap given (same_schedule q ds m s.0 s'.0 s.2 s'.2) ∙ sym s'.1)
    (λ (h : TooLong room ds). a.refused_exactly.1 h ∙ sym (b.refused_exactly.1 h))
    (one_of room ds)

-- no two outcomes meet it
pub settled : (q : Request) (closed : List ℕ) (dates flags : ℕ) → Plain q → Passes q closed dates flags
    → (ds ds' : List ℕ) → Owed q ds → Owed q ds' → (m m' : ℕ) → Most q m → Most q m'
    → (o o' : Answer Schedule) → Kept q dates ds m o → Kept q dates ds' m' o' → o ≡ o'
settled q closed dates flags p c ds ds' x x' m m' v v' o o' k k' =
    kept_one q dates ds m o o' k
    (subst (λ (l : List ℕ). Kept q dates l m o') (one_list x' x) (subst (λ (n : ℕ). Kept q dates ds' n o') (most_only q p closed dates flags c m m' v v') k'))

-- ---- the frauds
module _ (q : Request) (room : ℕ) (ds : List ℕ) (m : ℕ) where
  -- a list that has room is not refused, with whatever number
  pub no_refusal : (n : ℕ) → Kept q room ds m (refused n) → length ds ≤ room → length ds ≤ 4096 → ⊥
  no_refusal n k h g = let s = k.accepted_else (fits_not room ds (omega arith)) in never_both (refused n) s.0 n s.1 refl

  -- a list that has none is not given
  pub no_list : (s : Schedule) → Kept q room ds m (given s) → TooLong room ds → ⊥
  no_list s k h = never_both (given s) s ROOM refl (k.refused_exactly.1 h)

  -- what is given has these dates, these flags and these tries
  pub told : (s : Schedule) → Kept q room ds m (given s) → Accepted q ds m s
  told s k =
      ⊎_elim
      (λ (h : length ds ≤ min room 4096).
      let t = k.accepted_else (fits_not room ds h) in
      subst (λ (x : Schedule). Accepted q ds m x) (one_given (given s) t.0 s t.1 refl) t.2)
      (λ (h : TooLong room ds). absurd (no_list s k h))
      (one_of room ds)

  pub no_other_dates : (s : Schedule) → (s.dates ≡ ds → ⊥) → Kept q room ds m (given s) → ⊥
  no_other_dates s n k = n (told s k).dates

  pub no_other_tries : (s : Schedule) → (s.tries ≡ 1 + m / tenor_count q → ⊥) → Kept q room ds m (given s) → ⊥
  no_other_tries s n k = n (told s k).tries

  pub no_other_flags : (s : Schedule) → (Flagged q ds s.flags → ⊥) → Kept q room ds m (given s) → ⊥
  no_other_flags s n k = n (told s k).flags
