-- Counts from a place on, one more or one less: what stands at each place.
-- Assumes nothing.
use Rattle.std.specs.Prelude.{ℕ, zero, suc, ◌+◌, ◌-◌, ◌≤◌, ◌<◌, ◌≡◌, refl, Bool, take, drop}
use Rattle.std.proofs.Math.Path.{ap}
use Rattle.std.proofs.Common.{◌∙◌, not-suc-le-zero, get_or-drop}
use mathlib.Core.List.{List, [], ◌∷◌, ◌++◌, map}
use native.Mathlib.Omega.{arith}
use Rattle.std.proofs.Math.ListN.{length, get_or, length-append, length-drop, get_or-append}
use Rattle.std.proofs.Math.Seq.{length-take-le, get_or-append-add, get_or-take, take-append-le, take_all}
use Rattle.opendays.specs.Index.{stepped, onwards}

map_length : (f : ℕ → ℕ) (l : List ℕ) → length (map f l) ≡ length l
map_length f [] = refl
map_length f (x ∷ xs) = ap suc (map_length f xs)

map_at : (f : ℕ → ℕ) (l : List ℕ) (i : ℕ) → i < length l → get_or (map f l) i 0 ≡ f (get_or l i 0)
map_at f [] i h = absurd (not-suc-le-zero h)
map_at f (x ∷ xs) zero h = refl
map_at f (x ∷ xs) (suc i) h = map_at f xs i (omega arith)

module _ (up : Bool) (place : ℕ) (index : List ℕ) (h : place ≤ length index) where
  pub onwards_length : length (onwards up place index) ≡ length index
  unfolding onwards
  onwards_length =
      length-append (take place index) (map (stepped up) (drop place index))
      ∙ omega (arith, length-take-le place index h, map_length (stepped up) (drop place index), length-drop place index)

  -- the places before it are as they were
  pub onwards_take : take place (onwards up place index) ≡ take place index
  unfolding onwards
  onwards_take =
      let e : length (take place index) ≡ place = length-take-le place index h in
      take-append-le place (take place index) (map (stepped up) (drop place index)) (omega arith)
      ∙ take_all place (take place index) (omega arith)

  pub onwards_before : (i : ℕ) → i < place → get_or (onwards up place index) i 0 ≡ get_or index i 0
  unfolding onwards
  onwards_before i l =
      get_or-append (take place index) (map (stepped up) (drop place index)) 0 i (omega (arith, length-take-le place index h))
      ∙ get_or-take place index i 0 l

  -- and the others changed
  pub onwards_from : (i : ℕ) → place ≤ i → i < length index → get_or (onwards up place index) i 0 ≡ stepped up (get_or index i 0)
  unfolding onwards
  onwards_from i l r =
      let e : i ≡ length (take place index) + (i - place) = omega (arith, length-take-le place index h) in
      let f : place + (i - place) ≡ i = omega arith in
      ap (λ (k : ℕ). get_or (take place index ++ map (stepped up) (drop place index)) k 0) e
      ∙ get_or-append-add (take place index) (map (stepped up) (drop place index)) (i - place) 0
      ∙ map_at (stepped up) (drop place index) (i - place) (omega (arith, length-drop place index))
      ∙ ap (stepped up) (get_or-drop place index (i - place) 0 ∙ ap (λ (k : ℕ). get_or index k 0) f)
