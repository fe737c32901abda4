-- Bytes of a body behind its first, taken one by one, are a run.
-- Assumes nothing.
use Prim.Native.Nat.{ℕ, suc, ◌+◌, ◌-◌, ◌≤◌, ◌<◌}
use Rattle.std.specs.Prelude.{◌≡◌, refl, true, set}
use Rattle.std.proofs.Common.{sym, ◌∙◌, add-one, lt-ltb, ne_eqb}
use Rattle.std.proofs.Math.Path.{ap}
use mathlib.Core.List.{List, [], ◌∷◌}
use native.Mathlib.Omega.{arith}
use Rattle.std.proofs.Math.ListN.{length}
use Rattle.std.proofs.Math.Seq.{sets, sets-eq}
use Rattle.request.specs.Format.{pick}
use Rattle.request.specs.Laws.Picks.{taken, left}
use Rattle.feeding.specs.declared.State.{State}
use Rattle.feeding.specs.Feed.{at, settled, starts_ok, on_body, keeps_of, eat_of, keep_of, eaten, laid}
use Rattle.feeding.specs.Inner.Runs.{Run, ran, copied}

-- a field goes on as long as bytes are due
pub goes_on : (s : State) → (s.due ≡ 0 → ⊥) → settled s ≡ s
unfolding settled
goes_on s h = left _ _ (ne_eqb s.due 0 h)

module _ (tag high sound finished size : ℕ) (places : List ℕ) where
  abbrev in_body : ℕ → ℕ → ℕ → State
  in_body due kept fed = at 4 tag high sound finished due kept fed size places

  module _ (b n kept fed : ℕ) (f : fed < 20000) (k : kept < 20000) where
    keeps_it : keeps_of (in_body (suc n) kept fed) ≡ true
    unfolding keeps_of pick
    keeps_it = taken _ _ (lt-ltb _ _ f) ∙ taken _ _ (lt-ltb _ _ k) ∙ left _ _ (ne_eqb (suc n) 0 (λ e. omega arith))

    eats_it : eat_of (in_body (suc n) kept fed) b ≡ settled (in_body n (kept + 1) (fed + 1))
    unfolding eat_of on_body starts_ok pick
    eats_it =
        let less : suc n - 1 ≡ n = omega arith in
        taken _ _ (lt-ltb _ _ f) ∙ taken _ _ keeps_it ∙ ap (λ (d : ℕ). settled (in_body d (kept + 1) (fed + 1))) less

    lays_it : (l : List ℕ) → keep_of (in_body (suc n) kept fed) b l ≡ set l kept b
    unfolding keep_of
    lays_it l = taken _ _ keeps_it

  -- so many bytes, of at least as many that are due
  pub body_eaten : (b : ℕ) (bs : List ℕ) (more kept fed : ℕ) → fed + length (b ∷ bs) ≤ 20000 → kept + length (b ∷ bs) ≤ 20000
      → eaten (in_body (length (b ∷ bs) + more) kept fed) (b ∷ bs) ≡ settled (in_body more (kept + length (b ∷ bs)) (fed + length (b ∷ bs)))
  unfolding eaten
  body_eaten b [] more kept fed f k =
      let one : 1 + more ≡ suc more = omega arith in
      ap (λ (d : ℕ). eat_of (in_body d kept fed) b) one ∙ eats_it b more kept fed (omega arith) (omega arith)
  body_eaten b (c ∷ cs) more kept fed f k =
      let first : length (b ∷ c ∷ cs) + more ≡ suc (length (c ∷ cs) + more) = omega arith in
      let x : kept + 1 + length (c ∷ cs) ≡ kept + length (b ∷ c ∷ cs) = omega arith in
      let y : fed + 1 + length (c ∷ cs) ≡ fed + length (b ∷ c ∷ cs) = omega arith in
      ap (λ (d : ℕ). eaten (eat_of (in_body d kept fed) b) (c ∷ cs)) first
      ∙ ap (λ (s : State). eaten s (c ∷ cs)) (eats_it b (length (c ∷ cs) + more) kept fed (omega arith) (omega arith) ∙ goes_on (in_body (length (c ∷ cs) + more) (kept + 1) (fed + 1)) (λ e. omega arith))
      ∙ body_eaten c cs more (kept + 1) (fed + 1) (omega arith) (omega arith)
      ∙ ap (λ (z : ℕ). settled (in_body more z (fed + 1 + length (c ∷ cs)))) x
      ∙ ap (λ (z : ℕ). settled (in_body more (kept + length (b ∷ c ∷ cs)) z)) y

  pub body_laid : (b : ℕ) (bs : List ℕ) (more kept fed : ℕ) (l : List ℕ) → fed + length (b ∷ bs) ≤ 20000 → kept + length (b ∷ bs) ≤ 20000
      → laid (in_body (length (b ∷ bs) + more) kept fed) (b ∷ bs) l ≡ sets l kept (b ∷ bs)
  unfolding laid
  body_laid b [] more kept fed l f k =
      let one : 1 + more ≡ suc more = omega arith in
      ap (λ (d : ℕ). keep_of (in_body d kept fed) b l) one ∙ lays_it b more kept fed (omega arith) (omega arith) l
  body_laid b (c ∷ cs) more kept fed l f k =
      let first : length (b ∷ c ∷ cs) + more ≡ suc (length (c ∷ cs) + more) = omega arith in
      ap (λ (d : ℕ). laid (eat_of (in_body d kept fed) b) (c ∷ cs) (keep_of (in_body d kept fed) b l)) first
      ∙ ap (λ (s : State). laid s (c ∷ cs) (keep_of (in_body (suc (length (c ∷ cs) + more)) kept fed) b l)) (eats_it b (length (c ∷ cs) + more) kept fed (omega arith) (omega arith) ∙ goes_on (in_body (length (c ∷ cs) + more) (kept + 1) (fed + 1)) (λ e. omega arith))
      ∙ ap (laid (in_body (length (c ∷ cs) + more) (kept + 1) (fed + 1)) (c ∷ cs)) (lays_it b (length (c ∷ cs) + more) kept fed (omega arith) (omega arith) l)
      ∙ body_laid c cs more (kept + 1) (fed + 1) (set l kept b) (omega arith) (omega arith)
      ∙ ap (λ (i : ℕ). sets (set l kept b) i (c ∷ cs)) (add-one kept)

-- a run; one of no bytes leaves a reader that stands in a body as it is
module _ (s : State) where
  abbrev inside : ℕ → ℕ → ℕ → State
  inside = in_body s.tag s.high s.sound s.finished s.size s.places

  pub run_eaten : (xs : List ℕ) → (length xs ≡ 0 → ⊥) → Run s (length xs) → eaten s xs ≡ ran s (length xs)
  unfolding ran eaten
  run_eaten [] some r = absurd (some refl)
  run_eaten (b ∷ bs) some r =
      let d : s.due ≡ length (b ∷ bs) + (s.due - length (b ∷ bs)) = omega (arith, r.due) in
      let here : s ≡ inside (length (b ∷ bs) + (s.due - length (b ∷ bs))) s.kept s.fed = λ i. at (r.body i) s.tag s.high s.sound s.finished (d i) s.kept s.fed s.size s.places in
      ap (λ (x : State). eaten x (b ∷ bs)) here
      ∙ body_eaten s.tag s.high s.sound s.finished s.size s.places b bs (s.due - length (b ∷ bs)) s.kept s.fed r.fed r.kept
      ∙ ap (λ (p : ℕ). settled (at p s.tag s.high s.sound s.finished (s.due - length (b ∷ bs)) (s.kept + length (b ∷ bs)) (s.fed + length (b ∷ bs)) s.size s.places)) (sym r.body)

  pub run_laid : (xs l : List ℕ) → (length xs ≡ 0 → ⊥) → Run s (length xs) → s.kept + length xs ≤ length l → laid s xs l ≡ copied l s.kept xs
  unfolding copied laid
  run_laid [] l some r room = absurd (some refl)
  run_laid (b ∷ bs) l some r room =
      let d : s.due ≡ length (b ∷ bs) + (s.due - length (b ∷ bs)) = omega (arith, r.due) in
      let here : s ≡ inside (length (b ∷ bs) + (s.due - length (b ∷ bs))) s.kept s.fed = λ i. at (r.body i) s.tag s.high s.sound s.finished (d i) s.kept s.fed s.size s.places in
      ap (λ (x : State). laid x (b ∷ bs) l) here
      ∙ body_laid s.tag s.high s.sound s.finished s.size s.places b bs (s.due - length (b ∷ bs)) s.kept s.fed l r.fed r.kept
      ∙ sets-eq (b ∷ bs) l s.kept room
