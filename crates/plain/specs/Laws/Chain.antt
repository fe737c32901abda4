-- A walk whose candidates are kept one after the other up to the j-th, and whose next ends it.
-- Assumes nothing.
use Prim.Native.Nat.{ℕ, zero, suc, ◌+◌, ◌-◌, ◌≤◌, ◌<◌}
use Rattle.std.specs.Prelude.{◌≡◌, refl, List, [], ◌∷◌, length, get_or, replicate}
use Rattle.std.proofs.Common.{ap, sym, ◌∙◌, inl, inr, ⊎_elim, not-suc-le-zero, eq-or-lt_of_le, lt-ltb, le-ltb}
use Rattle.std.proofs.Math.Nat.{sub-zero}
use native.Mathlib.Omega.{arith}
use Rattle.refusal.specs.Answer.{Answer, given, refused, need, then, ROOM}
use Rattle.steps.specs.Candidates.{Turn, past, keep}
use Rattle.steps.specs.Generate.{Lists, onto, newest, has_room_in, put, on_turn, walk}
use Rattle.plain.specs.Listed.{◌∈◌, Ascending}

abbrev pub ones : ℕ → List ℕ
ones j = replicate j 1

-- ---- the dates line j, .., line 1, line 0
module _ (line : ℕ → ℕ) where
  abbrev pub chain : ℕ → List ℕ
  chain zero = line 0 ∷ []
  chain (suc j) = line (suc j) ∷ chain j

  pub chain_length : (j : ℕ) → length (chain j) ≡ j + 1
  chain_length zero = refl
  chain_length (suc j) = ap suc (chain_length j) ∙ omega arith

  pub chain_first : (j : ℕ) → get_or (chain j) 0 0 ≡ line j
  chain_first zero = refl
  chain_first (suc j) = refl

  pub chain_at : (j i : ℕ) → i ≤ j → get_or (chain j) i 0 ≡ line (j - i)
  chain_at j zero h = chain_first j ∙ ap line (sym (sub-zero j))
  chain_at zero (suc i) h = absurd (not-suc-le-zero h)
  chain_at (suc j) (suc i) h = chain_at j i (omega arith) ∙ ap line (omega arith)

  pub in_chain : (j k : ℕ) → k ≤ j → line k ∈ chain j
  in_chain zero zero h = inl refl
  in_chain zero (suc k) h = absurd (not-suc-le-zero h)
  in_chain (suc j) k h = ⊎_elim (λ (q : k ≡ suc j). inl (ap line q)) (λ (q : k < suc j). inr (in_chain j k (omega arith))) (eq-or-lt_of_le h)

  pub from_chain : (j d : ℕ) → d ∈ chain j → (k : ℕ) × (k ≤ j) × (d ≡ line k)
  from_chain zero d (inl q) = (0, omega arith, q)
  from_chain zero d (inr q) = absurd q
  from_chain (suc j) d (inl q) = (suc j, omega arith, q)
  from_chain (suc j) d (inr q) = let r = from_chain j d q in (r.0, omega (arith, r.1), r.2)

  pub chain_up : (j : ℕ) → ((i k : ℕ) → i < k → k ≤ j → line k < line i) → Ascending (chain j)
  chain_up zero down = (λ d h. absurd h, tt)
  chain_up (suc j) down = (
    λ d h. let r = from_chain j d h in rw r.2 (down r.0 (suc j) (omega (arith, r.1)) (omega arith)),
    chain_up j (λ i k l h. down i k l (omega arith)),
  )

  -- the same in the walk's lists, a mark for each date
  abbrev pub linked : ℕ → Lists
  linked j = record { dates = chain j; marks = ones (suc j) }

-- ---- a date is put, or there is no room for it
pub put_fits : (room day mark : ℕ) (l : Lists) → length l.dates < room → put room day mark l ≡ given (onto day mark l)
unfolding put has_room_in need
put_fits room day mark l h = rw (lt-ltb (length l.dates) room h)

pub put_full : (room day mark : ℕ) (l : Lists) → room ≤ length l.dates → put room day mark l ≡ refused ROOM
unfolding put has_room_in need
put_full room day mark l h = rw (le-ltb (length l.dates) room h)

-- ---- the walk
module _
    (turn : ℕ → ℕ → Answer Turn) (line : ℕ → ℕ) (room j : ℕ)
    (keeps : (i : ℕ) → i < j → turn (line i) (suc i) ≡ given (keep (line (suc i))))
    (stops : turn (line j) (suc j) ≡ given past)
  where
    turn_at : (i : ℕ) (a : Answer Turn) → turn (line i) (suc i) ≡ a → turn (newest (linked line i)) (suc i) ≡ a
    turn_at i a h = ap (λ (x : ℕ). turn x (suc i)) (chain_first line i) ∙ h

    walk_ends : (f : ℕ) → walk turn room (suc f) (suc j) (linked line j) ≡ given (record { lists = linked line j; tries = suc j })
    unfolding walk then on_turn
    walk_ends f = rw (turn_at j (given past) stops)

    walk_on : (f i : ℕ) → i < j → walk turn room (suc f) (suc i) (linked line i) ≡ then (put room (line (suc i)) 1 (linked line i)) (walk turn room f (suc (suc i)))
    unfolding walk then on_turn
    walk_on f i h = rw (turn_at i (given (keep (line (suc i)))) (keeps i h))

    go_fits : (d f i : ℕ) → d + i ≡ j → d < f → j < room → walk turn room f (suc i) (linked line i) ≡ given (record { lists = linked line j; tries = suc j })
    unfolding then
    go_fits d zero i s l r = absurd (not-suc-le-zero l)
    go_fits zero (suc f) i s l r =
        let q : i ≡ j = omega arith in
        rw q (walk_ends f)
    go_fits (suc d) (suc f) i s l r =
        walk_on f i (omega arith)
        ∙ rw (put_fits room (line (suc i)) 1 (linked line i) (omega (arith, chain_length line i)))
        (go_fits d f (suc i) (omega arith) (omega arith) r)

    go_full : (d f i : ℕ) → d + suc i ≡ room → d < f → room ≤ j → walk turn room f (suc i) (linked line i) ≡ refused ROOM
    unfolding then
    go_full d zero i s l r = absurd (not-suc-le-zero l)
    go_full zero (suc f) i s l r =
        walk_on f i (omega arith) ∙ rw (put_full room (line (suc i)) 1 (linked line i) (omega (arith, chain_length line i)))
    go_full (suc d) (suc f) i s l r =
        walk_on f i (omega arith)
        ∙ rw (put_fits room (line (suc i)) 1 (linked line i) (omega (arith, chain_length line i)))
        (go_full d f (suc i) (omega arith) (omega arith) r)

    pub walk_fits : (f : ℕ) → j < f → j < room → walk turn room f 1 (linked line 0) ≡ given (record { lists = linked line j; tries = suc j })
    walk_fits f l r = go_fits j f 0 (omega arith) l r

    pub walk_full : (f : ℕ) → room < f → 1 ≤ room → room ≤ j → walk turn room f 1 (linked line 0) ≡ refused ROOM
    walk_full f l s r = go_full (room - 1) f 0 (omega arith) (omega arith) r
