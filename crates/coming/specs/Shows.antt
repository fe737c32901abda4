-- What a schedule shows of a day: its first date after the day, with the flag of the period that it ends. No schedule shows two answers.
-- Assumes nothing.
use Rattle.std.specs.Prelude.{ℕ, suc, ◌≤◌, ◌<◌, ◌≡◌, refl, length, get_or}
use Rattle.std.proofs.Common.{ap, sym, ◌∙◌, ⊎_elim, eq-or-lt_of_le, arith, le-leb, le-ltb, lt-ltb}
use Rattle.std.proofs.lemmas.Bool.{lt-leb}
use Rattle.steps.specs.declared.Request.{Request}
use Rattle.steps.specs.Build.{Schedule}
use Rattle.outcomes.specs.Laws.Span.{le_or_lt}
use Rattle.coming.specs.Coming.{Comes, begins, comes, none_comes, between_or}

-- date i is the first of the schedule after day x
pub record FirstAfter (s : Schedule) (x i : ℕ) : Type 0 where
  pub in_list : i < length s.dates
  pub after : x < get_or s.dates i 0
  pub before : (k : ℕ) → k < i → get_or s.dates k 0 ≤ x

-- the schedule shows so
pub data Shows (s : Schedule) (x : ℕ) : Comes → Type 0 where
  at_first : (d : ℕ) → FirstAfter s x 0 → get_or s.dates 0 0 ≡ d → Shows s x (begins d)
  at_later : (i d f : ℕ) → FirstAfter s x (suc i) → get_or s.dates (suc i) 0 ≡ d → get_or s.flags i 0 ≡ f → Shows s x (comes d f)
  at_none : ((k : ℕ) → k < length s.dates → get_or s.dates k 0 ≤ x) → Shows s x none_comes

-- no schedule shows two answers
same_place : (s : Schedule) (x i k : ℕ) → FirstAfter s x i → FirstAfter s x k → i ≡ k
same_place s x i k a b = ⊎_elim (λ (h : i ≤ k). ⊎_elim (λ (e : i ≡ k). e) (λ (l : i < k). absurd (no i k a b l)) (eq-or-lt_of_le h)) (λ (l : k < i). absurd (no k i b a l)) (le_or_lt i k)
  where
    no : (i k : ℕ) → FirstAfter s x i → FirstAfter s x k → i < k → ⊥
    no i k a b l = omega (arith, a.after, b.before i l)

not_none : (s : Schedule) (x i : ℕ) → FirstAfter s x i → ((k : ℕ) → k < length s.dates → get_or s.dates k 0 ≤ x) → ⊥
not_none s x i a h = omega (arith, a.after, h i a.in_list)

pub shows_once : (s : Schedule) (x : ℕ) (a b : Comes) → Shows s x a → Shows s x b → a ≡ b
shows_once s x a b (at_first d p e) (at_first d' p' e') = ap begins (sym e ∙ e')
shows_once s x a b (at_first d p e) (at_later i d' f' p' e' g') = let z : 0 ≡ suc i = same_place s x 0 (suc i) p p' in let bad : ⊥ = omega arith in absurd bad
shows_once s x a b (at_first d p e) (at_none h) = absurd (not_none s x 0 p h)
shows_once s x a b (at_later i d f p e g) (at_first d' p' e') = let z : suc i ≡ 0 = same_place s x (suc i) 0 p p' in let bad : ⊥ = omega arith in absurd bad
shows_once s x a b (at_later i d f p e g) (at_later k d' f' p' e' g') =
    let z : suc i ≡ suc k = same_place s x (suc i) (suc k) p p' in
    let y : i ≡ k = omega arith in
    let u : d ≡ d' = sym e ∙ ap (λ (n : ℕ). get_or s.dates n 0) z ∙ e' in
    let v : f ≡ f' = sym g ∙ ap (λ (n : ℕ). get_or s.flags n 0) y ∙ g' in
    λ n. comes (u n) (v n)
shows_once s x a b (at_later i d f p e g) (at_none h) = absurd (not_none s x (suc i) p h)
shows_once s x a b (at_none h) (at_first d' p' e') = absurd (not_none s x 0 p' h)
shows_once s x a b (at_none h) (at_later i d' f' p' e' g') = absurd (not_none s x (suc i) p' h)
shows_once s x a b (at_none h) (at_none h') = refl

-- what it shows of a day before effective, from termination on, and between them
pub by_cases : (q : Request) (s : Schedule) (x : ℕ) (a : Comes) → (x < q.effective.day → Shows s x (begins q.effective.day)) → (q.termination.day ≤ x → Shows s x none_comes) → (q.effective.day ≤ x → x < q.termination.day → Shows s x a) → Shows s x (between_or q x a)
by_cases q s x a first none next =
    ⊎_elim
    (λ (h : q.effective.day ≤ x).
    ⊎_elim
    (λ (i : q.termination.day ≤ x). rw (le-ltb x q.effective.day h, le-leb q.termination.day x i) (none i))
    (λ (i : x < q.termination.day). rw (le-ltb x q.effective.day h, lt-leb q.termination.day x i) (next h i))
    (le_or_lt q.termination.day x))
    (λ (h : x < q.effective.day). rw (lt-ltb x q.effective.day h) (first h))
    (le_or_lt q.effective.day x)
